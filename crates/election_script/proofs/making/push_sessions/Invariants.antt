use Rattle.election_script.proofs.Imports.{actions_of, flat_map, get_or, length, session_steps, sessions, ℕ, ◌+◌, ◌++◌}
use Rattle.election_script.proofs.Imports.{◌-◌, ◌<◌, ◌≡◌}
use Rattle.election_script.proofs.making.push_sessions.Given as goal

-- the steps of the sessions so far, and how many entries each booth has made
abbrev pub invariant-loop-session : goal.invariant-loop-session
invariant-loop-session l = record {
  steps : l.steps.items ≡ l.fn.steps.items ++ flat_map session_steps (sessions (l.session - 1));
  three : length l.made ≡ 3;
  made : (k : ℕ) → k < 3 → get_or l.made k 0 ≡ length (actions_of (1 + k) (l.session - 1));
}
