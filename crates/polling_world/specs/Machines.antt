-- A machine, as contracts see it.
use Rattle.std.specs.Prelude.{◌≡◌, ℕ, ◌<◌, ◌≤◌, nat_le, Bool, false, ◌||◌, List, [], ◌∷◌, ◌++◌, length, All}
use Rattle.std.specs.Prelude.{Option, Some, None, slice_get}
use Rattle.entry_format.specs.Deeds.{IsDeedOf}
use Rattle.entry_format.specs.EntryText.{IsVersion, IsDeedIn}
use Rattle.entry_format.specs.Nodes.{node_of_sealed}
use Rattle.entry_format.specs.SealedEntry.{SealedEntry}
use Rattle.entry_format.specs.Unsealing.{key_at}
use Rattle.entry_order.specs.declared.event.Event.{Event}
use Rattle.entry_order.specs.History.{IsLegal}
use Rattle.entangled_log.specs.Logs.{History}
use Rattle.lms_sign.specs.Secret.{public_of}
use Rattle.roster.specs.Machines.{HaveText}
use Rattle.election_script.specs.declared.script.Cast0.{Cast0}
use Rattle.election_script.specs.declared.script.Script.{Script}
use Rattle.polling_world.specs.Configs.{Config, config_of}
use Rattle.polling_world.specs.Sending.{AreMade}

-- what it is made of, the number of events at which it stops, if there is one, whether it was
-- stopped by a call, and what it sent and heard
pub record MachineState : Type 0 where
  pub config : Config
  pub stop : Option ℕ
  pub marked : Bool
  pub events : List (Event SealedEntry)

-- its log
abbrev pub log_of : MachineState → History SealedEntry
log_of m = record { owner = m.config.number; capacity = m.config.log; events = m.events }

-- the machine with one event more
abbrev pub with_event : Event SealedEntry → MachineState → MachineState
with_event x m = record m { events = m.events ++ x ∷ [] }

-- there is a number of events to stop at, and there are that many
abbrev pub is_reached : Option ℕ → ℕ → Bool
is_reached None count = false
is_reached (Some stop) count = nat_le stop count

-- whether the machine was stopped, or has as many events as it stops at
abbrev pub has_stopped : MachineState → Bool
has_stopped m = m.marked || is_reached m.stop (length m.events)

-- the script's machine at this place, before anything happened
abbrev pub IsFresh : Script → ℕ → Option ℕ → MachineState → Type 0
IsFresh script at stop m =
    (cast : Cast0) × (slice_get script.machines at ≡ Some cast)
    × (m ≡ record { config = config_of script at cast; stop = stop; marked = false; events = [] })

-- there are no more events than the number to stop at, if there is one
abbrev pub IsWithinStop : Option ℕ → ℕ → Type 0
IsWithinStop None count = Unit {0}
IsWithinStop (Some stop) count = count ≤ stop

-- what is true of every machine: its version is one, the roster has its key at its number, its
-- actions are deeds of its role that the version has, its history is legal and within its log, each
-- entry that it sent could be sent then, and no event came after its stop
pub record IsMachine (m : MachineState) : Type 0 where
  pub version : IsVersion m.config.version
  pub roster : HaveText m.config.roster
  pub place : m.config.number < length m.config.roster
  pub public : public_of m.config.key ≡ key_at m.config.roster m.config.number
  pub actions : All (λ deed. IsDeedOf m.config.role deed × IsDeedIn m.config.version deed) m.config.actions
  pub legal : IsLegal node_of_sealed m.config.number m.events
  pub within : length m.events ≤ m.config.log
  pub sent : AreMade m.config m.events
  pub stop : IsWithinStop m.stop (length m.events)
