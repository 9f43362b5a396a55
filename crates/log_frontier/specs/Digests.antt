-- Sets of digests whose room was reserved, and the places of entries by their digests.
use Rattle.std.specs.Prelude.{ℕ, Bool, List, Option, is_some}
use Rattle.std.specs.List.{list_any}
use Rattle.std.specs.Map.{lookup}
use Rattle.std.specs.Str.{bytes_eq}

-- the digests of a set, and how many more it takes without memory
pub record Digests : Type 0 where
  pub list : List (List ℕ)
  pub spare : ℕ

-- whether the digest is among these (Auditorium, EVT 2007)
abbrev pub has : List (List ℕ) → List ℕ → Bool
has digests d = list_any (λ c. bytes_eq d c) digests

-- places by digest, and how many more digests it takes without memory
pub record DigestPlaces : Type 0 where
  pub list : List (List ℕ × ℕ)
  pub spare : ℕ

-- the place of a digest
abbrev pub place_by : List (List ℕ × ℕ) → List ℕ → Option ℕ
place_by places d = lookup (bytes_eq d) places

-- whether the digest has a place
abbrev pub bears : List (List ℕ × ℕ) → List ℕ → Bool
bears places d = is_some (place_by places d)

-- the digests that are looked for; once there was no room for one, `scans` is set and the list says
-- nothing
pub record Wanted : Type 0 where
  pub list : List (List ℕ)
  pub scans : Bool
