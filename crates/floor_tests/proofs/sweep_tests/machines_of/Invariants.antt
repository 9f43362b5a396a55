use Rattle.std.proofs.Common.{◌≡◌, ℕ, [], Some, length}
use Rattle.std.specs.Prelude.{slice_get}
use Rattle.polling_world.specs.Machines.{MachineState}
use Rattle.finished_floor.specs.Placed.{IsAt}
use Rattle.floor_tests.proofs.sweep_tests.machines_of.Given as goal

-- the machines so far have their places and no events
abbrev pub invariant-loop-at : goal.invariant-loop-at
invariant-loop-at l = record {
  count : length l.machines.items ≡ l.at;
  each : (place : ℕ) (m : MachineState) → slice_get l.machines.items place ≡ Some m → IsAt place m × (m.events ≡ []);
}
