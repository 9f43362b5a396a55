-- Where each entry is: heard, lost or waiting.
use Rattle.std.specs.Prelude.{◌≡◌, ◌≢◌, ℕ, ◌<◌, List, ◌++◌}
use Rattle.entry_order.specs.declared.event.Event.{Event}
use Rattle.entry_order.specs.Node.{Node}
use Rattle.entry_order.specs.History.{sent}
use Rattle.finished_floor.specs.declared.loss.Loss.{Loss}
use Rattle.finished_floor.specs.Arrivals.{got_from, arriving}

module _ {T : Type 0} (node : T → Node) (count : ℕ) where
  -- what one of the machines got of another, and what waits for it, are what the other sent and
  -- what isn't lost, in order
  abbrev pub IsBalanced : (ℕ → List (Event T)) → List Loss → (ℕ → ℕ → List T) → Type 0
  IsBalanced history losses waits =
      (a b : ℕ) → a < count → b < count → a ≢ b →
      got_from node a (history b) ++ waits a b ≡ arriving node losses a b (sent (history a))
