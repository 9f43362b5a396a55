-- What the fields of a machine keep that contracts don't see.
use Rattle.std.specs.Prelude.{◌≡◌, ℕ, ◌+◌, ◌^◌, ◌≤◌, List, length}
use Rattle.election_script.specs.Lawful.{max_events}
use Rattle.entry_format.specs.declared.deed.Deed.{Deed}
use Rattle.entry_format.specs.declared.entry.Entry.{Entry}
use Rattle.entry_format.specs.Deeds.{IsDeedOf}
use Rattle.entry_order.specs.History.{sent}
use Rattle.roster.specs.declared.post.Role.{Role}
use Rattle.roster.specs.declared.post.Role.TheVariants.{Supervisor, Booth}
use Rattle.supervisor_core.specs.State as supervisor
use Rattle.booth_core.specs.State as booth
use Rattle.polling_world.specs.declared.rules.Rules.{Rules}
use Rattle.polling_world.specs.declared.rules.Rules.TheVariants as rules
use Rattle.polling_world.specs.Machines.{MachineState, IsMachine}
use Rattle.polling_world.specs.Making.{election_of}
use Rattle.polling_world.specs.Rules.{entries_in}

-- the state of the rules is that of a machine of this role that holds these entries
abbrev pub StandFor : Rules → Role → ℕ → List Entry → Type 0
StandFor (rules.Supervisor notes) Supervisor owner entries = supervisor.StandsFor notes owner entries
StandFor (rules.Supervisor notes) Booth owner entries = ⊥
StandFor (rules.Booth notes) Supervisor owner entries = ⊥
StandFor (rules.Booth notes) Booth owner entries = booth.StandsFor notes owner entries

-- how many entries more the rules have room for
abbrev pub spare_of : Rules → ℕ
spare_of (rules.Supervisor notes) = notes.spare
spare_of (rules.Booth notes) = notes.spare

-- the deed is one of the role that the rules are for
abbrev pub IsDeedFor : Rules → Deed → Type 0
IsDeedFor (rules.Supervisor notes) deed = IsDeedOf Supervisor deed
IsDeedFor (rules.Booth notes) deed = IsDeedOf Booth deed

-- the machine is one, its election is the roster's, its key signs next with the number of its next
-- entry, its rules have noted what it holds and have room for what its log has room for, and its
-- log is small enough for an entry to name all that is in it
pub record IsKept (m : MachineState) (election : List ℕ) (next capacity : ℕ) (state : Rules) : Type 0 where
  pub machine : IsMachine m
  pub of_roster : election ≡ election_of m.config.roster
  pub signs_next : next ≡ length (sent m.events)
  pub indexed : next ≤ 2 ^ m.config.key.height
  pub of_log : capacity ≡ m.config.log
  pub noted : StandFor state m.config.role m.config.number (entries_in m.events)
  pub spare : m.config.log ≤ length m.events + spare_of state
  pub few : m.config.log ≤ max_events
