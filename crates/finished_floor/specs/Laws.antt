-- The laws of losses.
use Rattle.std.specs.Prelude.{◌≡◌, ◌≢◌, ℕ, ◌<◌, ◌⊎◌, true, false, List, [], length}
use Rattle.std.specs.List.{Contains}
use Rattle.entry_order.specs.Node.{Node}
use Rattle.entry_order.specs.History.{sent}
use Rattle.entry_order.specs.World.{World, history}
use Rattle.finished_floor.specs.declared.loss.Loss.{Loss}
use Rattle.finished_floor.specs.Arrivals.{is_lost, got_from}
use Rattle.finished_floor.specs.Balance.{IsBalanced}

module _ {T : Type 0} (node : T → Node) where
  -- where nothing waits, each entry that a machine sent was heard by each other machine, or is lost
  -- on its way there, and not both
  abbrev pub EachIsHeardOrLost : Type 0
  EachIsHeardOrLost =
      (w : World T) (losses : List Loss) → IsBalanced node (length w) (history w) losses (λ a b. []) →
      (a b : ℕ) (e : T) → a < length w → b < length w → a ≢ b → Contains (sent (history w a)) e →
      (Contains (got_from node a (history w b)) e × (is_lost losses a (node e).number b ≡ false))
      ⊎ ((Contains (got_from node a (history w b)) e → ⊥) × (is_lost losses a (node e).number b ≡ true))
