-- What an append or a write takes, and what it leaves.
use Rattle.std.specs.Prelude.{◌≡◌, ℕ, ◌<◌, ◌≤◌, List, [], ◌++◌, length, take, drop, Bool, true, false, Result, Ok, Err}
use Rattle.std.specs.Prelude.{Option, option_map, unwrap_or}
use Rattle.hall_outside.specs.declared.stores.Failed.{Failed}
use Rattle.hall_outside.specs.Files.{Files, file_set}

-- how many bytes of a piece were taken: at least one, at most all (POSIX `write`)
pub record IsCountOf (piece : List ℕ) (n : ℕ) : Type 0 where
  pub some : 0 < n
  pub at_most : n ≤ length piece

-- the bytes with these at their end, where the sink exposes them
abbrev pub appended : Option (List ℕ) → List ℕ → Option (List ℕ)
appended written bytes = option_map (λ before. before ++ bytes) written

-- the files with these bytes at the end of the named one
abbrev pub file_appended : Files → List ℕ → List ℕ → Files
file_appended files name bytes =
    file_set files name (unwrap_or (files name) [] ++ bytes)

-- a prefix of the bytes went out
abbrev pub AppendsPrefix : Option (List ℕ) → List ℕ → Option (List ℕ) → Type 0
AppendsPrefix old bytes new = (n : ℕ) × (new ≡ appended old (take n bytes))

-- the files with these bytes at the end of one that is there, where files are exposed
abbrev pub with_appended : Option Files → List ℕ → List ℕ → Option Files
with_appended files name bytes = option_map (λ at. file_appended at name bytes) files

-- calls that are each offered all that is left, until nothing is left or one fails
pub data OffersAll {S : Type 0} (step : S → List ℕ → Result ℕ Failed → S → Type 0) : S → List ℕ → Bool → S
    → Type 0 where
  none_left : (now : S) → OffersAll step now [] true now
  fails : (old new : S) (left : List ℕ) (failed : Failed) → step old left (Err failed) new
      → OffersAll step old left false new
  takes : (old mid new : S) (left : List ℕ) (n : ℕ) (ok : Bool) → step old left (Ok n) mid
      → OffersAll step mid (drop n left) ok new → OffersAll step old left ok new

-- a create, and after it such calls
pub data PutsFile {S : Type 0} (create : S → Bool → S → Type 0) (step : S → List ℕ → Result ℕ Failed → S → Type 0) : S
    → List ℕ → Bool → S → Type 0 where
  not_created : (old new : S) (bytes : List ℕ) → create old false new → PutsFile create step old bytes false new
  created : (old mid new : S) (bytes : List ℕ) (ok : Bool) → create old true mid
      → OffersAll step mid bytes ok new → PutsFile create step old bytes ok new
