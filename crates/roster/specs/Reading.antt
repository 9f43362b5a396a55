-- What reading a roster answers.
use Rattle.std.specs.Prelude.{ℕ, List, Result, Ok, Err, codes}
use Rattle.canonical_sexp.specs.Reading.{IsCanonical, StopsAt}
use Rattle.roster.specs.declared.post.Post.{Post}
use Rattle.roster.specs.declared.rosters.Roster.{Roster}
use Rattle.roster.specs.declared.faults.RosterFault.{RosterFault}
use Rattle.roster.specs.declared.faults.RosterFault.TheVariants.{NotCanonical, WrongShape, TooManyMachines}
use Rattle.roster.specs.declared.faults.RosterFault.TheVariants.{BadName, SameName, NotOneSupervisor, Memory}
use Rattle.roster.specs.RosterText.{IsRosterText}
use Rattle.roster.specs.Machines.{AreFew, AreNamed, AreDistinct, HaveOneSupervisor, AreRoster}

-- the bytes are the text of some machines, whatever their names and however many they are
abbrev pub HasForm : List ℕ → Type 0
HasForm text = (machines : List Post) × IsRosterText text machines

-- why such machines make no roster, the first cause that applies
abbrev pub IsMachinesFault : List Post → RosterFault → Type 0
IsMachinesFault machines (NotCanonical at) = ⊥
IsMachinesFault machines WrongShape = ⊥
IsMachinesFault machines TooManyMachines = ¬ AreFew machines
IsMachinesFault machines BadName = AreFew machines × (¬ AreNamed machines)
IsMachinesFault machines SameName = AreFew machines × AreNamed machines × (¬ AreDistinct machines)
IsMachinesFault machines NotOneSupervisor =
    AreFew machines × AreNamed machines × AreDistinct machines × (¬ HaveOneSupervisor machines)
IsMachinesFault machines Memory = ⊥

-- why the text isn't a roster's, the first cause that applies
abbrev pub IsFault : List ℕ → RosterFault → Type 0
IsFault text (NotCanonical at) = StopsAt text at
IsFault text WrongShape = IsCanonical text × (¬ HasForm text)
IsFault text fault = (machines : List Post) × IsRosterText text machines × IsMachinesFault machines fault

-- the roster of the text, or its first fault
abbrev pub Reads : List ℕ → Result Roster RosterFault → Type 0
Reads text (Ok roster) = IsRosterText text roster.machines × AreRoster roster.machines
Reads text (Err fault) = IsFault text fault

-- the word of a fault, as the variant is spelt
abbrev pub fault_word : RosterFault → List ℕ
fault_word (NotCanonical at) = codes "NotCanonical"
fault_word WrongShape = codes "WrongShape"
fault_word TooManyMachines = codes "TooManyMachines"
fault_word BadName = codes "BadName"
fault_word SameName = codes "SameName"
fault_word NotOneSupervisor = codes "NotOneSupervisor"
fault_word Memory = codes "Memory"

-- the place of a fault: that of the byte where the text stops being canonical, and else 0
abbrev pub fault_place : RosterFault → ℕ
fault_place (NotCanonical at) = at
fault_place other = 0
