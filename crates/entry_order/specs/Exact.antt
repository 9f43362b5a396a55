-- What is said of the order of survivors is exact: there are entries that complete them, in as many
-- ways as are left open.
use Rattle.std.specs.Prelude.{◌↔◌, ℕ, ◌<◌, List}
use Rattle.std.specs.List.{Contains}
use Rattle.entry_order.specs.Node.{Node}
use Rattle.entry_order.specs.Naming.{Distinct}
use Rattle.entry_order.specs.Precedes.{Precedes}
use Rattle.entry_order.specs.Settled.{IsWhole}
use Rattle.entry_order.specs.Completion.{Completion}

module _ {T : Type 0} (node : T → Node) where
  -- all are of this number of machines, and no two have one digest
  pub record AreSurvivors (machines : ℕ) (S : List T) : Type 0 where
    pub in_roster : (e : T) → Contains S e → (node e).maker < machines
    pub distinct : Distinct node S

  -- any survivors have a completion
  abbrev pub CompletionsExist : Type 0
  CompletionsExist =
      (machines : ℕ) (S : List T) → AreSurvivors machines S → (G : List T) × Completion node machines S G

  -- One survivor is known to precede another exactly when it does in each completion, and is known
  -- not to exactly when it does in none. So the order is unknown exactly when completions differ.
  abbrev pub OrderIsExact : Type 0
  OrderIsExact =
      (machines : ℕ) (S : List T) → AreSurvivors machines S → (y x : T) → Contains S y → Contains S x →
      (Precedes node S y x ↔ ((G : List T) → Completion node machines S G → Precedes node G y x))
      × ((IsWhole node S x × (¬ Precedes node S y x))
      ↔ ((G : List T) → Completion node machines S G → ¬ Precedes node G y x))
