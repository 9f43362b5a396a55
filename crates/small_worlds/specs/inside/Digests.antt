-- Where a digest is put among others.
use Rattle.std.specs.Prelude.{ℕ, List, Option, Some, None}
use Rattle.std.specs.List.{insert}

-- the digest put at a place, if there is one
abbrev pub put_at : Option ℕ → List ℕ → List (List ℕ) → List (List ℕ)
put_at None d ds = ds
put_at (Some at) d ds = insert ds at d
