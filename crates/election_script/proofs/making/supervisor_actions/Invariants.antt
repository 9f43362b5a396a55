use Rattle.election_script.proofs.Imports.{authorise_of, map, Opened, sessions, ◌-◌, ◌∷◌, ◌≡◌}
use Rattle.election_script.proofs.making.supervisor_actions.Given as goal

-- the opening, and the sessions so far
abbrev pub invariant-loop-session : goal.invariant-loop-session
invariant-loop-session l = l.deeds.items ≡ Opened ∷ map authorise_of (sessions (l.session - 1))
