-- How the program ends with an answer.
use Rattle.std.specs.Prelude.{◌≡◌, ◌⊎◌, Bool, true, false, Result, Ok, Err}
use Rattle.command_line.specs.declared.answer.Fault.{Fault}
use Rattle.command_line.specs.declared.answer.Fault.TheVariants as fault
use Rattle.command_line.specs.declared.status.Status.{Status}
use Rattle.command_line.specs.declared.status.Status.TheVariants as status
use Rattle.command_line.specs.Lines.{Answer}
use Rattle.command_line.specs.Outside.{Outside}
use Rattle.command_line.specs.Written.{IsCutShort, IsWritten}

-- the answer was written, or was cut short where a write failed
abbrev pub IsToldAs : Answer → (Answer → Bool → Type 0) → Outside → Status → Outside → Type 0
IsToldAs answer is_written_by old how new =
    ((how ≡ answer.status) × is_written_by answer true × IsWritten answer old new)
    ⊎ ((how ≡ status.WriteFault) × is_written_by answer false × IsCutShort answer old new)

-- The answer is written, and nothing more is asked of the store. Where there is none, the status
-- says why, and nothing changes.
abbrev pub EndsWith : Result Answer Fault → (Answer → Bool → Type 0) → Outside → Status → Outside → Type 0
EndsWith (Ok answer) is_written_by old how new =
    IsToldAs answer is_written_by old how new × (new.answered ≡ old.answered)
EndsWith (Err fault.ReadFault) is_written_by old how new = (how ≡ status.ReadFault) × (new ≡ old)
EndsWith (Err fault.Memory) is_written_by old how new = (how ≡ status.Memory) × (new ≡ old)
