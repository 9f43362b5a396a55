-- Machines in their places.
use Rattle.std.specs.Prelude.{◌≡◌, ℕ, ◌<◌, false, List, ◌++◌, length, All, Some, slice_get}
use Rattle.std.specs.List.{Contains}
use Rattle.entry_format.specs.SealedEntry.{SealedEntry}
use Rattle.entry_order.specs.declared.event.Event.{Event}
use Rattle.entry_order.specs.declared.event.Event.TheVariants.{Got}
use Rattle.entry_order.specs.History.{sent}
use Rattle.entry_order.specs.World.{history}
use Rattle.finished_floor.specs.declared.loss.Loss.{Loss}
use Rattle.polling_world.specs.Machines.{MachineState, IsMachine}
use Rattle.polling_world.specs.Worlds.{world_of}

-- the machine has its place as its number, and no call stopped it
pub record IsAt (place : ℕ) (m : MachineState) : Type 0 where
  pub number : m.config.number ≡ place
  pub machine : IsMachine m
  pub unmarked : m.marked ≡ false

-- each of the machines has its place
abbrev pub ArePlaced : List MachineState → Type 0
ArePlaced machines = (place : ℕ) (m : MachineState) → slice_get machines place ≡ Some m → IsAt place m

-- the machine is made of the same and stops at the same number, and its history is the old one and
-- what came after it
pub record HasGrown (old new : MachineState) : Type 0 where
  pub config : new.config ≡ old.config
  pub stop : new.stop ≡ old.stop
  pub later : List (Event SealedEntry)
  pub events : new.events ≡ old.events ++ later

-- there are as many machines, each grown so
pub record HaveGrown (old new : List MachineState) : Type 0 where
  pub count : length new ≡ length old
  pub each : (place : ℕ) (m n : MachineState) → slice_get old place ≡ Some m → slice_get new place ≡ Some n →
      HasGrown m n

-- each entry that one of the machines got was made by one of them
abbrev pub AreMadeByThese : List MachineState → Type 0
AreMadeByThese machines =
    (place : ℕ) (m : MachineState) (e : SealedEntry) → slice_get machines place ≡ Some m →
    Contains m.events (Got e) → e.entry.maker < length machines

-- how many entries the machine sent
abbrev pub count_sent : List MachineState → ℕ → ℕ
count_sent machines place = length (sent (history (world_of machines) place))

-- the losses are of entries that the machines sent
abbrev pub AreOfSent : List MachineState → List Loss → Type 0
AreOfSent machines losses = All (λ loss. loss.number < count_sent machines loss.from) losses
