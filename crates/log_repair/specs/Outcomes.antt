-- What the machines of a polling place come to, by the world that they are.
use Rattle.std.specs.Prelude.{◌≡◌, ◌⊎◌, ℕ, false, List, ◌++◌, length, Option, Some, slice_get}
use Rattle.std.specs.List.{Contains}
use Rattle.entangled_log.specs.Whole.{NamesOnlyHeld}
use Rattle.entry_format.specs.Nodes.{node_of_sealed}
use Rattle.entry_format.specs.SealedEntry.{SealedEntry}
use Rattle.entry_order.specs.declared.event.Event.{Event}
use Rattle.entry_order.specs.declared.step.Step.{Step}
use Rattle.entry_order.specs.Naming.{IsBorneIn}
use Rattle.entry_order.specs.Node.{Node}
use Rattle.entry_order.specs.History.{held}
use Rattle.entry_order.specs.Survivors.{gaps}
use Rattle.entry_order.specs.World.{Machine, World, happens, play}
use Rattle.polling_world.specs.Machines.{MachineState, has_stopped}
use Rattle.polling_world.specs.Worlds.{machine_of, world_of, configs_of, TellsNext, HaveLog}

-- a way from a world to another by steps, given what is there after a step
abbrev pub WorldWay : Type 1
WorldWay = (World SealedEntry → Step → World SealedEntry) → World SealedEntry → List Step → World SealedEntry → Type 0

-- by the steps the way leads from these machines to those, for whatever function says what each may
-- send
abbrev pub LeadsTo : WorldWay → List MachineState → List Step → List MachineState → Type 0
LeadsTo Way old steps new =
    (next : ℕ → List (Event SealedEntry) → Option SealedEntry) (log : ℕ) →
    TellsNext (configs_of old) next → HaveLog log old →
    Way (happens node_of_sealed next log) (world_of old) steps (world_of new)

-- only a prefix of the steps of the way was taken
abbrev pub BreaksOff : WorldWay → List MachineState → List MachineState → Type 0
BreaksOff Way old new =
    (next : ℕ → List (Event SealedEntry) → Option SealedEntry) (log : ℕ) →
    TellsNext (configs_of old) next → HaveLog log old →
    (done later : List Step) × (end : World SealedEntry)
    × Way (happens node_of_sealed next log) (world_of old) (done ++ later) end
    × (world_of new ≡ play node_of_sealed next log (world_of old) done)

module _ {T : Type 0} (node : T → Node) where
  -- no machine of the world that runs holds an entry with the digest
  abbrev pub NoneAnswers : World T → List ℕ → Type 0
  NoneAnswers w d =
      (m : ℕ) (a : Machine T) → slice_get w m ≡ Some a → a.stopped ≡ false → ¬ IsBorneIn node (held a.history) d

  -- of the world's machine: its log is whole, or has as many events as it may, or it misses a
  -- digest that no machine that runs holds
  abbrev pub IsMended : ℕ → World T → Machine T → Type 0
  IsMended log w a =
      NamesOnlyHeld node (held a.history) ⊎ (length a.history ≡ log)
      ⊎ ((d : List ℕ) × Contains (gaps node (held a.history)) d × NoneAnswers w d)

-- each machine that hasn't stopped is mended
abbrev pub AreMended : List MachineState → Type 0
AreMended machines =
    (place : ℕ) (m : MachineState) → slice_get machines place ≡ Some m → has_stopped m ≡ false →
    IsMended node_of_sealed m.config.log (world_of machines) (machine_of m)
