-- What rows of bits say of the order of nodes.
use Rattle.std.specs.Prelude.{◌≡◌, ℕ, ◌<◌, Bool, false, if◌then◌else◌, List, length, slice_index_or}
use Rattle.entry_order.specs.declared.three.Three.{Three}
use Rattle.entry_order.specs.declared.three.Three.TheVariants.{False, Unknown, True}
use Rattle.entry_order.specs.Ancestors.{is_whole, before}
use Rattle.precedence.specs.Graph.{Graph}
use Rattle.precedence.specs.Bits.{row_has}

-- for each node the row of its ancestors, and whether it is whole
pub record Known : Type 0 where
  pub rows : List (List ℕ)
  pub whole : List Bool

-- how many nodes there are
abbrev pub known_count : Known → ℕ
known_count known = length known.rows

-- whether a node is whole
abbrev pub known_whole : Known → ℕ → Bool
known_whole known x = slice_index_or known.whole x false

-- whether y comes before x
abbrev pub known_before : Known → ℕ → ℕ → Three
known_before known y x =
    if row_has known.rows x y then True else if known_whole known x then False else Unknown

-- what they say is what the graph says: nobody who reads on need know how it is kept (Kleene 1952,
-- section 64)
pub record IsKnownOf (graph : Graph) (known : Known) : Type 0 where
  pub nodes : known_count known ≡ graph.count
  pub orders : (y x : ℕ) → x < graph.count →
      known_before known y x ≡ before graph.parents graph.ragged y x
  pub wholes : (x : ℕ) → x < graph.count →
      known_whole known x ≡ is_whole graph.parents graph.ragged x x
