use Rattle.std.proofs.Common.{◌≢◌, ℕ, ◌<◌, get_or}
use Rattle.election_script.specs.declared.script.StopAt.{StopAt}
use Rattle.floor_tests.proofs.sessions.stop_of.Given as goal

-- none of the lines that were read is the machine's
abbrev pub invariant-loop-stop : goal.invariant-loop-stop
invariant-loop-stop l = (k : ℕ) (d : StopAt) → k < l.stop-index → (get_or l.stops k d).machine ≢ l.at
