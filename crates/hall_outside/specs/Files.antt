-- Files by their names, where a store exposes them.
use Rattle.std.specs.Prelude.{ℕ, List, Option, Some, if◌then◌else◌, ◌≡◌, ◌⊎◌, take, IfSome, option_map}
use Rattle.std.specs.Str.{bytes_eq}

-- the bytes of each file that is there, by its name
abbrev pub Files : Type 0
Files = List ℕ → Option (List ℕ)

-- where files are exposed, this holds of the named one, which may be absent
abbrev pub OnFile : Option Files → List ℕ → (Option (List ℕ) → Type 0) → Type 0
OnFile files name P = IfSome files (λ at. P (at name))

-- the files with one of them set, and all others as they were
abbrev pub file_set : Files → List ℕ → List ℕ → Files
file_set files name bytes other = if bytes_eq other name then Some bytes else files other

-- the files with one of them set, where files are exposed
abbrev pub with_file : Option Files → List ℕ → List ℕ → Option Files
with_file files name bytes = option_map (λ at. file_set at name bytes) files

-- the files are as before, or one of them is a prefix of the bytes
abbrev pub SetsPrefix : Option Files → List ℕ → List ℕ → Option Files → Type 0
SetsPrefix old name bytes new =
    (new ≡ old) ⊎ ((n : ℕ) × (new ≡ with_file old name (take n bytes)))
