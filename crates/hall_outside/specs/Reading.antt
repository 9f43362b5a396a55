-- What a read answers, and what `read_file` does.
use Rattle.std.specs.Prelude.{◌≡◌, ℕ, ◌≤◌, ◌↔◌, List, [], length, take, drop, Option, None, IsSomeAnd, Result, Ok, Err}
use Rattle.hall_outside.specs.declared.stores.Failed.{Failed}
use Rattle.hall_outside.specs.declared.stores.Taken.{Taken}
use Rattle.hall_outside.specs.declared.stores.Taken.TheVariants.{Absent, Bytes}
use Rattle.hall_outside.specs.Counts.{raised}
use Rattle.hall_outside.specs.Files.{Files, OnFile}

-- the part is the file's bytes from `at` on, and is empty exactly at the file's end and past it
abbrev pub IsPartFrom : ℕ → List ℕ → List ℕ → Type 0
IsPartFrom at part file =
    (part ≡ take (length part) (drop at file)) × ((length part ≡ 0) ↔ (length file ≤ at))

-- what the answer of a read says of the buffer and, where files are exposed, of the file (POSIX
-- `pread`)
abbrev pub IsTaken : Option Files → List ℕ → ℕ → List ℕ → List ℕ → Taken → Type 0
IsTaken files name at old new Absent = (new ≡ old) × OnFile files name (λ file. file ≡ None)
IsTaken files name at old new (Bytes n) =
    (n ≤ length old) × (drop n new ≡ drop n old)
    × OnFile files name (λ file. IsSomeAnd file (IsPartFrom at (take n new)))

-- the bytes that a read gave: those that it put into the front of the buffer
abbrev pub bytes_given : Result Taken Failed → List ℕ → List ℕ
bytes_given (Ok Absent) new = []
bytes_given (Ok (Bytes n)) new = take n new
bytes_given (Err failed) new = []

-- all that reads have answered so far: how often `Absent`, and how many bytes in all
pub record Answered : Type 0 where
  pub absences : ℕ
  pub bytes : ℕ

-- all that reads have answered, once this read's answer is added
abbrev pub counted : Answered → Result Taken Failed → Answered
counted before (Ok Absent) = record before { absences = raised before.absences 1 }
counted before (Ok (Bytes n)) = record before { bytes = raised before.bytes n }
counted before (Err failed) = before
