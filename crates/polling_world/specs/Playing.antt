-- What the machines of a script come to by its steps.
use Rattle.std.specs.Prelude.{◌≡◌, ℕ, List, length, slice_get, Option, Some, None}
use Rattle.entry_format.specs.Nodes.{node_of_sealed}
use Rattle.entry_format.specs.SealedEntry.{SealedEntry}
use Rattle.entry_order.specs.declared.event.Event.{Event}
use Rattle.entry_order.specs.declared.step.Step.{Step}
use Rattle.entry_order.specs.World.{World, start, play}
use Rattle.election_script.specs.declared.script.Script.{Script}
use Rattle.polling_world.specs.Configs.{IsOf, script_configs}
use Rattle.polling_world.specs.Machines.{MachineState}
use Rattle.polling_world.specs.Worlds.{world_of, TellsNext}

-- each of these is the script's machine at its place, with no stop of its own
pub record AreOf (script : Script) (machines : List MachineState) : Type 0 where
  pub count : length machines ≡ length script.machines
  pub number : (place : ℕ) (m : MachineState) → slice_get machines place ≡ Some m → m.config.number ≡ place
  pub config : (place : ℕ) (m : MachineState) → slice_get machines place ≡ Some m → IsOf script m.config
  pub no_stop : (place : ℕ) (m : MachineState) → slice_get machines place ≡ Some m → m.stop ≡ None

-- the world to which the script's machines come by these steps, in order
abbrev pub ComesTo : Script → List Step → World SealedEntry → Type 0
ComesTo script steps world =
    (next : ℕ → List (Event SealedEntry) → Option SealedEntry) × TellsNext (script_configs script) next
    × (world ≡ play node_of_sealed next script.log (start (length script.machines)) steps)

-- these are the script's machines once they have taken its steps, in order
pub record IsPlayed (script : Script) (machines : List MachineState) : Type 0 where
  pub are_of : AreOf script machines
  pub played : ComesTo script script.steps (world_of machines)

-- a script is played in one way
abbrev pub ScriptsArePlayedInOneWay : Type 0
ScriptsArePlayedInOneWay =
    (script : Script) (machines others : List MachineState) → IsPlayed script machines → IsPlayed script others →
    machines ≡ others
