use Rattle.election_script.proofs.Imports.{actions_of, ◌-◌, ◌≡◌}
use Rattle.election_script.proofs.making.actions_of.Given as goal

-- the deeds of the sessions so far
abbrev pub invariant-loop-session : goal.invariant-loop-session
invariant-loop-session l = l.deeds.items ≡ actions_of l.booth (l.session - 1)
