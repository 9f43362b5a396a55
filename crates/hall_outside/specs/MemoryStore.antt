-- What a store in memory is seen as, and which of its calls fail.
use Rattle.std.specs.Prelude.{◌≡◌, ℕ, ◌-◌, ◌↔◌, Bool, false, if◌then◌else◌, List, [], ◌∷◌, length, min, Option, Some}
use Rattle.std.specs.Prelude.{None, IsSomeAnd, Contains, Result, IsErr, IfOk, is_ok}
use Rattle.std.specs.Str.{bytes_eq}
use Rattle.hall_outside.specs.declared.stores.Failed.{Failed}
use Rattle.hall_outside.specs.declared.stores.Taken.{Taken}
use Rattle.hall_outside.specs.declared.stores.Taken.TheVariants.{Absent, Bytes}
use Rattle.hall_outside.specs.Counts.{raised, CountsFailures}
use Rattle.hall_outside.specs.Reading.{Answered}

-- the bytes of the file with this name, in a list of names and bytes
abbrev pub content_of : List (List ℕ × List ℕ) → List ℕ → Option (List ℕ)
content_of [] name = None
content_of (file ∷ files) name = if bytes_eq file.0 name then Some file.1 else content_of files name

-- the files, the numbers of the calls that are to fail, the most bytes that a read gives where that
-- is bounded, how many calls there were, and how many failed
pub record StoreState : Type 0 where
  pub files : List (List ℕ × List ℕ)
  pub failing_reads : List ℕ
  pub failing_writes : List ℕ
  pub greatest : Option ℕ
  pub reads : ℕ
  pub writes : ℕ
  pub read_faults : ℕ
  pub write_faults : ℕ
  pub answered : Answered

-- all that the file has from `at` on, or as much as there is room for
abbrev pub TakesAll : Option (List ℕ) → ℕ → ℕ → Taken → Type 0
TakesAll file at room Absent = file ≡ None
TakesAll file at room (Bytes n) = IsSomeAnd file (λ bytes. n ≡ min (length bytes - at) room)

-- the room of a read, or as much of it as may be used
abbrev pub room_within : Option ℕ → ℕ → ℕ
room_within None room = room
room_within (Some n) room = min n room

-- a read fails exactly when its number is listed, and else takes all that there is room for, within
-- the bound
pub record IsMemoryRead (name : List ℕ) (at room : ℕ) (old : StoreState) (result : Result Taken Failed)
    (new : StoreState) : Type 0 where
  pub number : new.reads ≡ raised old.reads 1
  pub fails : IsErr result ↔ Contains old.failing_reads new.reads
  pub took : IfOk result (TakesAll (content_of old.files name) at (room_within old.greatest room))
  pub faults : CountsFailures old.read_faults (is_ok result) new.read_faults
  pub rest : new ≡ record old { reads = new.reads; read_faults = new.read_faults; answered = new.answered }

-- a create, an append or a finish fails where its number is listed
pub record IsMemoryWrite (old : StoreState) (ok : Bool) (new : StoreState) : Type 0 where
  pub number : new.writes ≡ raised old.writes 1
  pub fails : Contains old.failing_writes new.writes → ok ≡ false
  pub faults : CountsFailures old.write_faults ok new.write_faults
  pub rest : new ≡ record old { files = new.files; writes = new.writes; write_faults = new.write_faults }

-- an append that doesn't fail takes the whole piece
pub record IsMemoryAppend (old : StoreState) (piece : List ℕ) (result : Result ℕ Failed)
    (new : StoreState) : Type 0 where
  pub write : IsMemoryWrite old (is_ok result) new
  pub whole : IfOk result (λ n. n ≡ length piece)
