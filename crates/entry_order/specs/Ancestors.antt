-- Ancestors in a graph of numbered nodes, each parent below its child, and what is known of order.
use Rattle.std.specs.Prelude.{ℕ, zero, suc, ◌<◌, Bool, false, not, ◌&&◌, ◌||◌, ◌==◌, if◌then◌else◌}
use Rattle.std.specs.Prelude.{List, [], ◌∷◌}
use Rattle.std.specs.List.{Contains, list_any, list_all}
use Rattle.entry_order.specs.declared.three.Three.{Three}
use Rattle.entry_order.specs.declared.three.Three.TheVariants.{False, Unknown, True}

module _ (parents : ℕ → List ℕ) where
  -- from x through these nodes to y, each has the next as a parent
  abbrev pub IsWalk : ℕ → List ℕ → ℕ → Type 0
  IsWalk x [] y = Contains (parents x) y
  IsWalk x (z ∷ zs) y = Contains (parents x) z × IsWalk z zs y

  -- y is an ancestor of x
  abbrev pub IsAncestor : ℕ → ℕ → Type 0
  IsAncestor y x = (through : List ℕ) × IsWalk x through y

  -- each parent is below its child
  abbrev pub Descends : Type 0
  Descends = (x z : ℕ) → Contains (parents x) z → z < x

  -- whether y is an ancestor of x, at most n arrows away
  abbrev pub reaches : ℕ → ℕ → ℕ → Bool
  reaches zero y x = false
  reaches (suc n) y x = list_any (λ z. (z == y) || reaches n y z) (parents x)

  module _ (ragged : ℕ → Bool) where
    -- whether neither x nor an ancestor at most n arrows away is ragged
    abbrev pub is_whole : ℕ → ℕ → Bool
    is_whole zero x = not (ragged x)
    is_whole (suc n) x = not (ragged x) && list_all (λ z. is_whole n z) (parents x)

    -- whether y comes before x, as far as it is known (Kleene's three values)
    abbrev pub before : ℕ → ℕ → Three
    before y x = if reaches x y x then True else if is_whole x x then False else Unknown
