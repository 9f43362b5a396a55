-- The machines of a script, with what happened to them.
use Rattle.std.specs.Prelude.{◌≡◌, ◌≢◌, ◌⊎◌, ◌^◌, ℕ, List, [], length, All, Option, Some, None, Err, slice_get}
use Rattle.std.specs.List.{Contains}
use Rattle.entry_format.specs.declared.deed.Deed.{Deed}
use Rattle.entry_format.specs.Nodes.{node_of_sealed}
use Rattle.entry_order.specs.History.{held, sent}
use Rattle.entry_order.specs.Naming.{IsBorneIn}
use Rattle.election_script.specs.declared.script.StopAt.{StopAt}
use Rattle.election_script.specs.declared.script.Script.{Script}
use Rattle.polling_world.specs.Machines.{MachineState, IsMachine, IsFresh}
use Rattle.polling_world.specs.declared.left.LeftWhy.{LeftWhy}
use Rattle.polling_world.specs.Making.{next_entry}
use Rattle.polling_world.specs.Rules.{Refuses}
use Rattle.polling_world.specs.Sending.{next_action}

-- the number of events at which the machine stops, if a line says so
abbrev pub IsStopOf : List StopAt → ℕ → Option ℕ → Type 0
IsStopOf stops machine None = All (λ stop. stop.machine ≢ machine) stops
IsStopOf stops machine (Some events) = Contains stops (record { machine = machine; events = events })

-- the script's machine at this place, with its stop line, whatever happened to it
pub record IsMachineOf (script : Script) (place : ℕ) (m : MachineState) : Type 0 where
  pub stop : IsStopOf script.stops place m.stop
  pub made : IsFresh script place m.stop (record m { events = [] })
  pub machine : IsMachine m

-- the machines of the script, in its order
pub record AreMachinesOf (script : Script) (machines : List MachineState) : Type 0 where
  pub count : length machines ≡ length script.machines
  pub each : (place : ℕ) (m : MachineState) → slice_get machines place ≡ Some m → IsMachineOf script place m

-- Nothing that the machine could do was left: no action is left; it has as many events as it stops
-- at; its log is full; each index of its key has signed; or of its next action the rules of its role
-- give a cause against it, or it holds the digest of the entry that it would send.
abbrev pub IsAtEnd : MachineState → Type 0
IsAtEnd m =
    (next_action m.config m.events ≡ None)
    ⊎ (m.stop ≡ Some (length m.events))
    ⊎ (length m.events ≡ m.config.log)
    ⊎ (length (sent m.events) ≡ 2 ^ m.config.key.height)
    ⊎ ((deed : Deed) × (next_action m.config m.events ≡ Some deed)
    × (((why : LeftWhy) × Refuses m.config m.events deed (Err why))
    ⊎ IsBorneIn node_of_sealed (held m.events) (node_of_sealed (next_entry m.config m.events deed)).digest))
