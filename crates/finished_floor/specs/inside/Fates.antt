-- What becomes of an entry that is handed to a machine.
use Rattle.std.specs.Prelude.{◌≡◌, ℕ, Bool, true, false, IsTrue, List, ◌++◌, length, Option, Some, None}
use Rattle.std.specs.Prelude.{slice_get, slice_set}
use Rattle.entry_format.specs.Nodes.{node_of_sealed}
use Rattle.entry_format.specs.SealedEntry.{SealedEntry}
use Rattle.entry_order.specs.declared.event.Event.TheVariants.{Got}
use Rattle.entry_order.specs.History.{held}
use Rattle.entry_order.specs.Naming.{IsBorneIn}
use Rattle.finished_floor.specs.OfEntries.{lost_by}
use Rattle.finished_floor.specs.declared.handing.SweptFloor.{SweptFloor}
use Rattle.finished_floor.specs.declared.loss.LossWhy.{LossWhy}
use Rattle.finished_floor.specs.declared.loss.LossWhy.TheVariants.{Scripted, LinkFull, ToStopped, LogFull, SameDigest}
use Rattle.polling_world.specs.declared.heard.MachineHeard.TheVariants as heard
use Rattle.polling_world.specs.Hearing.{IsHeard}
use Rattle.polling_world.specs.Machines.{MachineState, has_stopped, with_event}
use Rattle.polling_world.specs.Waiting.{IsGoing}
use Rattle.finished_floor.specs.Scripted.{is_scripted}

-- each machine has its place as its number
abbrev pub AreNumbered : List MachineState → Type 0
AreNumbered machines = (place : ℕ) (m : MachineState) → slice_get machines place ≡ Some m → m.config.number ≡ place

-- The machine heard the entry, or it is lost by the first cause that applies, and the machine
-- stays.
abbrev pub IsFate : Bool → MachineState → SealedEntry → Option LossWhy → MachineState → Type 0
IsFate scripted old e None new = (scripted ≡ false) × IsHeard old e heard.Taken × (new ≡ with_event (Got e) old)
IsFate scripted old e (Some Scripted) new = (scripted ≡ true) × (new ≡ old)
IsFate scripted old e (Some LinkFull) new = ⊥
IsFate scripted old e (Some ToStopped) new = (scripted ≡ false) × IsTrue (has_stopped old) × (new ≡ old)
IsFate scripted old e (Some LogFull) new =
    (scripted ≡ false) × IsGoing old × (length old.events ≡ old.config.log) × (new ≡ old)
IsFate scripted old e (Some SameDigest) new =
    (scripted ≡ false) × IsBorneIn node_of_sealed (held old.events) (node_of_sealed e).digest × (new ≡ old)

-- the machine at the place `to` was handed the entry
pub record IsHanded (to : ℕ) (e : SealedEntry) (old new : SweptFloor) : Type 0 where
  pub machine : MachineState
  pub then_machine : MachineState
  pub cause : Option LossWhy
  pub stood : slice_get old.machines.items to ≡ Some machine
  pub fate : IsFate (is_scripted old.loses.now e.entry.maker e.entry.number to) machine e cause then_machine
  pub changed : new.machines.items ≡ slice_set old.machines.items to then_machine
  pub loses : new.loses.now ≡ old.loses.now
  pub losses : new.losses.items ≡ old.losses.items ++ lost_by e to cause
