-- What a reader looks back at.
use Rattle.std.specs.Prelude.{◌≡◌, ℕ, true, ⊤, List, [], ◌∷◌, take, Some, IfSome, string_bytes}
use Rattle.hall_outside.specs.declared.read_files.Identity.{Identity}
use Rattle.hall_outside.specs.declared.read_files.ReadFile.{ReadFile}
use Rattle.hall_outside.specs.declared.read_files.ReadFiles.{ReadFiles}

-- where a regular file was read under the name, the system has said that the name still stands for it
abbrev pub IsAsRead : (List ℕ → Identity → Type 0) → ReadFile → Type 0
IsAsRead still file = IfSome file.found (λ found. found.is_regular ≡ true → still (string_bytes file.name) found)

-- each of these is as it was read
abbrev pub AreUnchanged : (List ℕ → Identity → Type 0) → List ReadFile → Type 0
AreUnchanged still [] = ⊤
AreUnchanged still (file ∷ files) = IsAsRead still file × AreUnchanged still files

-- each file that was read is as it was then
abbrev pub AreAllAsRead : (List ℕ → Identity → Type 0) → ReadFiles → Type 0
AreAllAsRead still read = AreUnchanged still (take read.count read.places.items)
