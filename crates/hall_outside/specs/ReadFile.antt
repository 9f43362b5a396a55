-- What `read_file` answers.
use Rattle.std.specs.Prelude.{◌≡◌, ℕ, ◌+◌, ◌<◌, ◌⊎◌, List, [], ◌++◌, length, Option, Some, None, IsSomeAnd}
use Rattle.std.specs.Prelude.{Result, Ok, Err, ⊤}
use Rattle.hall_outside.specs.declared.stores.Failed.{Failed}
use Rattle.hall_outside.specs.declared.stores.Store.{Ghosts as StoreGhosts}
use Rattle.hall_outside.specs.declared.stores.Taken.{Taken}
use Rattle.hall_outside.specs.declared.stores.Taken.TheVariants as taken
use Rattle.hall_outside.specs.declared.reading.FileFault.{FileFault}
use Rattle.hall_outside.specs.declared.reading.FileFault.TheVariants.{Absent, TooLong, ReadFault, Memory}
use Rattle.hall_outside.specs.Files.{OnFile}

-- What a refusal says of the file: that there is none, or that it is longer than the limit. A failed
-- read and want of memory say nothing of it.
abbrev pub IsFileRefused : ℕ → FileFault → Option (List ℕ) → Type 0
IsFileRefused limit Absent file = file ≡ None
IsFileRefused limit TooLong file = IsSomeAnd file (λ bytes. limit < length bytes)
IsFileRefused limit ReadFault file = ⊤
IsFileRefused limit Memory file = ⊤

-- the file is as it was found: it has exactly these bytes, or what the refusal says holds of it
abbrev pub IsFound : ℕ → Result (List ℕ) FileFault → Option (List ℕ) → Type 0
IsFound limit (Ok bytes) file = file ≡ Some bytes
IsFound limit (Err fault) file = IsFileRefused limit fault file

-- what is found of a file, if this is the last answer of a read, after these bytes
abbrev pub IsLastRead : ℕ → List ℕ → Result Taken Failed → Result (List ℕ) FileFault → Type 0
IsLastRead limit before (Ok taken.Absent) found = found ≡ Err Absent
IsLastRead limit before (Ok (taken.Bytes n)) found =
    ((n ≡ 0) × (found ≡ Ok before)) ⊎ ((limit < length before + n) × (found ≡ Err TooLong))
IsLastRead limit before (Err failed) found = found ≡ Err ReadFault

-- Reads of `size` bytes each, one where the last one ended, up to the last. What is found is the
-- bytes that they gave, joined in their order, or the refusal to which the last answer leads (POSIX
-- `read`).
pub data ReadsOn {S : Type 0} (read : ℕ → ℕ → S → Result Taken Failed → List ℕ → S → Type 0) (size limit : ℕ)
    : List ℕ → S → Result (List ℕ) FileFault → S → Type 0 where
  ends : (before : List ℕ) (old new : S) (answer : Result Taken Failed) (given : List ℕ)
      (found : Result (List ℕ) FileFault) → read (length before) size old answer given new
      → IsLastRead limit before answer found → ReadsOn read size limit before old found new
  goes_on : (before piece : List ℕ) (old mid new : S) (found : Result (List ℕ) FileFault)
      → read (length before) size old (Ok (taken.Bytes (length piece))) piece mid
      → ReadsOn read size limit (before ++ piece) mid found new → ReadsOn read size limit before old found new

-- A file was read from its beginning, in pieces of 65,536 bytes, and this was found. Where files are
-- exposed the file is so. No file changed.
pub record IsRead {S : Type 0} (of : StoreGhosts S) (name : List ℕ) (limit : ℕ) (old : S)
    (found : Result (List ℕ) FileFault) (new : S) : Type 0 where
  pub pieces : ReadsOn (of.reads name) 65536 limit [] old found new
  pub exposed : OnFile (of.files old) name (IsFound limit found)
  pub unchanged : of.files new ≡ of.files old

-- the file was read, and this holds of each file that is as it was found
abbrev pub OnReadFile : {S : Type 0} → StoreGhosts S → List ℕ → ℕ → (Option (List ℕ) → Type 0) → S → S → Type 0
OnReadFile of name limit P old new = (found : Result (List ℕ) FileFault) × IsRead of name limit old found new
    × ((file : Option (List ℕ)) → IsFound limit found file → P file)
