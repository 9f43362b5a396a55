-- Sets of digests.
use Rattle.std.specs.Prelude.{ℕ, Bool, List}
use Rattle.std.specs.List.{list_any}
use Rattle.std.specs.Str.{bytes_eq}

-- the digest is one of these
abbrev pub has : List (List ℕ) → List ℕ → Bool
has digests d = list_any (λ other. bytes_eq d other) digests
