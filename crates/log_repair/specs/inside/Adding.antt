-- Steps that are added to a list as they are taken.
use Rattle.std.specs.Prelude.{◌≡◌, ℕ, ◌+◌, List, ◌++◌, length, Option, ⊤}
use Rattle.entry_format.specs.Nodes.{node_of_sealed}
use Rattle.entry_format.specs.SealedEntry.{SealedEntry}
use Rattle.entry_order.specs.declared.event.Event.{Event}
use Rattle.entry_order.specs.declared.step.Step.{Step}
use Rattle.entry_order.specs.declared.step.Step.TheVariants.{Act, Hear, Stop}
use Rattle.entry_order.specs.World.{World, happens, play}
use Rattle.polling_world.specs.Machines.{MachineState}
use Rattle.polling_world.specs.Worlds.{WorldState, configs_of, stops_of, world_of}
use Rattle.polling_world.specs.Worlds.{HaveLog, TellsNext}
use Rattle.log_repair.specs.Outcomes.{WorldWay, BreaksOff}
use Rattle.log_repair.specs.Sequences.{TakesNone}
use Rattle.log_repair.specs.inside.Totals.{spare}

-- a step that adds an event, if it changes something
abbrev pub AddsEvent : Step → Type 0
AddsEvent (Act m) = ⊤
AddsEvent (Hear at from number) = ⊤
AddsEvent (Stop m) = ⊥

-- the roster and what the machines are made of stay
pub record IsMadeAsBefore (old new : WorldState) : Type 0 where
  pub roster : new.roster ≡ old.roster
  pub configs : configs_of new.machines ≡ configs_of old.machines
  pub stops : stops_of new.machines ≡ stops_of old.machines

-- what each machine may send after a history
abbrev pub NextEntry : Type 0
NextEntry = ℕ → List (Event SealedEntry) → Option SealedEntry

-- the function says what each of the machines may send, and each log may have this many events
pub record Says (machines : List MachineState) (next : NextEntry) (log : ℕ) : Type 0 where
  pub tells : TellsNext (configs_of machines) next
  pub have : HaveLog log machines

-- after these steps a way that leads on from the new machines completes the whole way from the old
abbrev pub Completes : WorldWay → WorldWay → List MachineState → List Step → List MachineState →
    Type 0
Completes Rest Whole old taken now =
    (next : NextEntry) (log : ℕ) → Says old next log →
    (rest : List Step) (last : World SealedEntry) →
    Rest (happens node_of_sealed next log) (world_of now) rest last →
    Whole (happens node_of_sealed next log) (world_of old) (taken ++ rest) last

-- some steps were taken and added to the list, and a way that leads on from here completes the
-- whole way
pub record Going (Rest Whole : WorldWay) (old : WorldState) (start end : List Step)
    (now : WorldState) : Type 0 where
  pub made : IsMadeAsBefore old now
  pub taken : List Step
  pub added : end ≡ start ++ taken
  pub spared : spare now.machines + length taken ≡ spare old.machines
  pub played : (next : NextEntry) (log : ℕ) → Says old.machines next log →
      world_of now.machines ≡ play node_of_sealed next log (world_of old.machines) taken
  pub leads : Completes Rest Whole old.machines taken now.machines

-- nothing is left of the way
abbrev pub Stays : WorldWay
Stays after old steps new = TakesNone old steps new

-- all steps of the way were taken and added to the list
abbrev pub Adds : WorldWay → WorldState → List Step → List Step → WorldState → Type 0
Adds Way old start end new = Going Stays Way old start end new

-- some of them were taken
pub record Fails (Way : WorldWay) (old new : WorldState) : Type 0 where
  pub made : IsMadeAsBefore old new
  pub broken : BreaksOff Way old.machines new.machines
