use Rattle.election_script.proofs.Imports.{drop, is_listed, stopped_of, ◌≡◌}
use Rattle.election_script.proofs.lines.has_stop.Given as goal

-- whether there is one depends on the stops that are left
abbrev pub invariant-loop-stop : goal.invariant-loop-stop
invariant-loop-stop l =
    is_listed (stopped_of l.machines l.stops) l.name
    ≡ is_listed (stopped_of l.machines (drop l.stop-index l.stops)) l.name
