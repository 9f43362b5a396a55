-- The frontier of the entries that a machine holds.
use Rattle.std.specs.Prelude.{◌≡◌, ◌↔◌, ℕ, not, List, map}
use Rattle.std.specs.List.{Contains, filter}
use Rattle.entry_order.specs.Node.{Node}
use Rattle.entry_order.specs.Naming.{IsNamedIn, IsBorneIn, is_named}
use Rattle.entry_order.specs.Ascending.{ascending, IsAscending}

-- the digests of those entries that none of them names, ascending (Auditorium, EVT 2007)
abbrev pub frontier : {T : Type 0} → (T → Node) → List T → List (List ℕ)
frontier node es =
    ascending (filter (λ d. not (is_named node es d)) (map (λ e. (node e).digest) es))

-- the list is ascending and has exactly the digests that an entry of es has and none of es names
pub record IsFrontier {T : Type 0} (node : T → Node) (es : List T) (ds : List (List ℕ))
    : Type 0 where
  pub rises : IsAscending ds
  pub members : (d : List ℕ) → Contains ds d ↔ (IsBorneIn node es d × (¬ (IsNamedIn node es d)))

-- exactly the frontier is so
abbrev pub FrontierIsUnique : {T : Type 0} → (T → Node) → Type 0
FrontierIsUnique {T} node =
    (es : List T) (ds : List (List ℕ)) → (ds ≡ frontier node es) ↔ IsFrontier node es ds
