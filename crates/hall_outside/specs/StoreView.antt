-- The fields of a store in memory, as what it is seen as.
use Rattle.std.specs.Prelude.{◌≡◌, ℕ, zero, suc, true, false, List, [], ◌∷◌, map, string_bytes}
use Rattle.std.specs.Str.{bytes_eq}
use Rattle.hall_outside.specs.declared.memory_store.File.{File}

-- a file's name and bytes
abbrev pub pair_of : File → List ℕ × List ℕ
pair_of file = (string_bytes file.name, file.bytes.items)

-- each file's name and bytes
abbrev pub stored : List File → List (List ℕ × List ℕ)
stored files = map pair_of files

-- the first file with this name is there
abbrev pub IsPlaceOf : List (List ℕ × List ℕ) → List ℕ → ℕ → Type 0
IsPlaceOf [] name i = ⊥
IsPlaceOf (file ∷ files) name zero = bytes_eq file.0 name ≡ true
IsPlaceOf (file ∷ files) name (suc i) = (bytes_eq file.0 name ≡ false) × IsPlaceOf files name i
