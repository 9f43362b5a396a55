-- What is said of the order of two survivors, and what it says of every completion.
use Rattle.std.specs.Prelude.{◌≡◌, ◌↔◌, ℕ, Bool, true, false, List, slice_get, Some}
use Rattle.std.specs.List.{Contains}
use Rattle.std.specs.List.Sorted.{IsNonDecreasingBy}
use Rattle.entry_order.specs.declared.three.Three.TheVariants.{False, Unknown, True}
use Rattle.entry_order.specs.Node.{Node}
use Rattle.entry_order.specs.Naming.{Names}
use Rattle.entry_order.specs.Precedes.{Precedes}
use Rattle.entry_order.specs.Survivors.{survivors, gaps}
use Rattle.entry_order.specs.Completion.{Completion}
use Rattle.entry_order.specs.Ancestors.{Descends, reaches, is_whole, before}

module _ {T : Type 0} (node : T → Node) where
  -- x names no gap of S
  abbrev pub NamesNoGap : List T → T → Type 0
  NamesNoGap S x = (d : List ℕ) → Contains (node x).names d → Contains (gaps node S) d → ⊥

  -- neither x nor an ancestor of x in S names a gap
  pub record IsWhole (S : List T) (x : T) : Type 0 where
    pub itself : NamesNoGap S x
    pub ancestors : (y : T) → Precedes node S y x → NamesNoGap S y

  -- the nodes are the places of S, a parent is what the entry names, and the ragged ones name a gap
  pub record IsGraphOf (S : List T) (parents : ℕ → List ℕ) (ragged : ℕ → Bool) : Type 0 where
    pub descends : Descends parents
    pub inside : (i p : ℕ) → Contains (parents i) p → (f : T) × (slice_get S p ≡ Some f)
    pub arrows : (i p : ℕ) (e f : T) → slice_get S i ≡ Some e → slice_get S p ≡ Some f →
        Contains (parents i) p ↔ Names node e f
    pub gaps_shown : (i : ℕ) (e : T) → slice_get S i ≡ Some e → (ragged i ≡ false) ↔ NamesNoGap S e

  -- a path among survivors is one in every completion; to a whole entry the converse holds
  abbrev pub PathsAreSettled : Type 0
  PathsAreSettled =
      (machines : ℕ) (S G : List T) → Completion node machines S G → (y x : T) →
      (Precedes node S y x → Precedes node G y x)
      × (Contains S x → IsWhole S x → Precedes node G y x → Precedes node S y x)

  -- survivors that are sorted by stamp have such a graph
  abbrev pub SurvivorsHaveAGraph : Type 0
  SurvivorsHaveAGraph =
      (S : List T) → IsNonDecreasingBy (λ e. (node e).stamp) S → survivors node S ≡ S →
      (parents : ℕ → List ℕ) × (ragged : ℕ → Bool) × IsGraphOf S parents ragged

  -- in a graph of survivors one place is reached from another exactly when its entry precedes the
  -- other's, and a place is found whole exactly when its entry is
  abbrev pub GraphsAreExact : Type 0
  GraphsAreExact =
      (S : List T) (parents : ℕ → List ℕ) (ragged : ℕ → Bool) → IsGraphOf S parents ragged →
      (y x : ℕ) (f e : T) → slice_get S y ≡ Some f → slice_get S x ≡ Some e →
      ((reaches parents x y x ≡ true) ↔ Precedes node S f e)
      × ((is_whole parents ragged x x ≡ true) ↔ IsWhole S e)

  -- what is called before is before in every completion, what is called not before is so in none,
  -- and unknown comes only where x isn't whole
  abbrev pub OrderIsSettled : Type 0
  OrderIsSettled =
      (machines : ℕ) (S : List T) (parents : ℕ → List ℕ) (ragged : ℕ → Bool) →
      IsGraphOf S parents ragged →
      (y x : ℕ) (f e : T) → slice_get S y ≡ Some f → slice_get S x ≡ Some e →
      (before parents ragged y x ≡ True →
      (G : List T) → Completion node machines S G → Precedes node G f e)
      × (before parents ragged y x ≡ False →
      (G : List T) → Completion node machines S G → ¬ (Precedes node G f e))
      × (before parents ragged y x ≡ Unknown → ¬ (IsWhole S e))
