use Rattle.election_script.proofs.Imports.{count_actions, take, ◌≡◌}
use Rattle.election_script.proofs.making.count_actions.Given as goal

-- the actions of the machines so far
abbrev pub invariant-loop-cast : goal.invariant-loop-cast
invariant-loop-cast l = l.count ≡ count_actions (take l.cast-index l.machines)
