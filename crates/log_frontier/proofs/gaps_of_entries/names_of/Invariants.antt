use Rattle.log_frontier.proofs.Imports.{flat_map, take, ◌≡◌}
use Rattle.log_frontier.proofs.gaps_of_entries.names_of.Given as goal

-- the names of the entries so far
abbrev pub invariant-loop-entry : goal.invariant-loop-entry
invariant-loop-entry g l =
    l.names.items ≡ flat_map (λ entry. (g.T.Knot.node entry).names) (take l.entry-index l.entries)
