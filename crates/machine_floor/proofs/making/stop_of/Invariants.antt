use Rattle.machine_floor.proofs.Imports.{◌≢◌, ℕ, ◌<◌, get_or, StopAt}
use Rattle.machine_floor.proofs.making.stop_of.Given as goal

-- none of the lines that were read is the machine's
abbrev pub invariant-loop-stop : goal.invariant-loop-stop
invariant-loop-stop l = (k : ℕ) (d : StopAt) → k < l.stop-index → (get_or l.stops k d).machine ≢ l.machine
