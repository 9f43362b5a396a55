-- A disk in memory: the calls that were made, the last one first, and what each did.
use Rattle.std.specs.Prelude.{◌≡◌, ◌⊎◌, ℕ, Bool, true, false, if◌then◌else◌, List, [], ◌∷◌, None, Some, string_bytes, nat_eq}
use Rattle.folder_calls.specs.World.{FolderMoment, Moments, set_node, stands, created, longer_by, emptied, renamed, removed, name_flushed, file_flushed}
use Rattle.folder_tests.specs.declared.disk.Call.{Call}
use Rattle.folder_tests.specs.declared.disk.Call.TheVariants.{Put, Create, Append, Empty, FlushFile, Rename, Remove, FlushName}

-- what each call does to the folder; `Put` is a file that was there before, on the disk itself
abbrev pub effect_of : Call → FolderMoment → FolderMoment
effect_of (Put name number bytes found) w =
    name_flushed (string_bytes name) (record (stands (string_bytes name) (Some number) w) {
      node = set_node w.node number
          (record { bytes = bytes.items; flushed = true; regular = found.is_regular });
    })
effect_of (Create name number) w = created (string_bytes name) number w
effect_of (Append number bytes) w = longer_by number bytes.items w
effect_of (Empty number) w = emptied number w
effect_of (FlushFile number) w = file_flushed number w
effect_of (Rename from to) w = renamed (string_bytes from) (string_bytes to) w
effect_of (Remove name) w = removed (string_bytes name) w
effect_of (FlushName name) w = name_flushed (string_bytes name) w

-- no file
abbrev pub nothing : FolderMoment
nothing = record {
  at = λ name. None;
  before = λ name. [];
  node = λ i. record { bytes = []; flushed = true; regular = true };
}

-- the folder once these calls were made
abbrev pub now_of : List Call → FolderMoment
now_of [] = nothing
now_of (call ∷ calls) = effect_of call (now_of calls)

-- the folder before the last of these calls, and before those
abbrev pub earlier_of : List Call → Moments
earlier_of [] = []
earlier_of (call ∷ calls) = now_of calls ∷ earlier_of calls

-- the moments so far, the newest first
abbrev pub moments_of : List Call → Moments
moments_of calls = now_of calls ∷ earlier_of calls

-- the call gave a file this number
abbrev pub numbers : Call → ℕ → Bool
numbers (Put name number bytes found) i = nat_eq number i
numbers (Create name number) i = nat_eq number i
numbers (Append number bytes) i = false
numbers (Empty number) i = false
numbers (FlushFile number) i = false
numbers (Rename from to) i = false
numbers (Remove name) i = false
numbers (FlushName name) i = false

-- one of the calls gave a file this number
abbrev pub is_numbered : List Call → ℕ → Bool
is_numbered [] i = false
is_numbered (call ∷ calls) i = if numbers call i then true else is_numbered calls i

-- the number is among these
abbrev pub has_number : List ℕ → ℕ → Bool
has_number [] i = false
has_number (x ∷ xs) i = if nat_eq x i then true else has_number xs i

-- one of the two lists has the number
abbrev pub HaveNumber : List ℕ → List ℕ → ℕ → Type 0
HaveNumber made locked i = (has_number made i ≡ true) ⊎ (has_number locked i ≡ true)
