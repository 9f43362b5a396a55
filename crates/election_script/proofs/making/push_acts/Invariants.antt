use Rattle.election_script.proofs.Imports.{Act, replicate, ◌++◌, ◌≡◌}
use Rattle.election_script.proofs.making.push_acts.Given as goal

-- the acts so far
abbrev pub invariant-loop-done : goal.invariant-loop-done
invariant-loop-done l = l.steps.items ≡ l.fn.steps.items ++ replicate l.done (Act l.machine)
