-- What may be said of the order of survivors where no entry precedes itself.
use Rattle.std.specs.Prelude.{◌≡◌, ◌↔◌, ◌⊎◌, ℕ, List}
use Rattle.std.specs.List.{Contains}
use Rattle.entry_order.specs.Node.{Node}
use Rattle.entry_order.specs.Precedes.{Precedes, IsAcyclic}
use Rattle.entry_order.specs.Survivors.{gaps}
use Rattle.entry_order.specs.Completion.{Completion}
use Rattle.entry_order.specs.Exact.{AreSurvivors}

module _ {T : Type 0} (node : T → Node) where
  -- an entry of machine 0 can be made with any names and any digest
  pub record MakesAny (make : List (List ℕ) → List ℕ → T) : Type 0 where
    pub digest : (names : List (List ℕ)) (d : List ℕ) → (node (make names d)).digest ≡ d
    pub maker : (names : List (List ℕ)) (d : List ℕ) → (node (make names d)).maker ≡ 0
    pub names : (names : List (List ℕ)) (d : List ℕ) → (node (make names d)).names ≡ names

  -- the gap is in the past of x: x, or a survivor that precedes x, names it
  abbrev pub IsInPast : List T → List ℕ → T → Type 0
  IsInPast S gap x =
      Contains (gaps node S) gap
      × ((e : T) × ((e ≡ x) ⊎ Precedes node S e x) × Contains (node e).names gap)

  -- Where no entry precedes itself, one survivor can precede another exactly if it does so among the
  -- survivors or some gap is in the other's past and not in its own; and it must exactly if it does so
  -- among them.
  abbrev pub OrderIsExactWithoutCycles : Type 0
  OrderIsExactWithoutCycles =
      (machines : ℕ) (S : List T) → AreSurvivors node machines S → IsAcyclic node S →
      (y x : T) → Contains S y → Contains S x →
      (((G : List T) × Completion node machines S G × IsAcyclic node G × Precedes node G y x)
      ↔ (Precedes node S y x ⊎ ((gap : List ℕ) × IsInPast S gap x × (¬ IsInPast S gap y))))
      × (((G : List T) → Completion node machines S G → IsAcyclic node G → Precedes node G y x)
      ↔ Precedes node S y x)
