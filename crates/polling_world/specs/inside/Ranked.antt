-- Steps with the ranks of their events.
use Rattle.std.specs.Prelude.{◌≡◌, ◌↔◌, ℕ, List, [], ◌∷◌, ◌++◌, map}
use Rattle.std.specs.List.{Contains, IsDistinct}
use Rattle.std.specs.Str.{bytes_eq}
use Rattle.entry_order.specs.declared.event.Event.{Event}
use Rattle.entry_order.specs.Node.{Node}
use Rattle.entry_order.specs.World.{World}
use Rattle.entry_order.specs.Merged.{PlacedEvent, sort_key, placed, IsEventOf, step_of}
use Rattle.polling_world.specs.declared.merging.RankedStep.{RankedStep}

module _ {T : Type 0} (node : T → Node) where
  -- the step that makes the event, with the event's rank
  abbrev pub ranked_step : PlacedEvent T → RankedStep
  ranked_step x = record { rank = sort_key x; step = step_of node x.machine x.event }

  -- those of the events that machine m's history has after the events before
  abbrev pub ranked_steps : ℕ → List (Event T) → List (Event T) → List RankedStep
  ranked_steps m before [] = []
  ranked_steps m before (x ∷ h) = ranked_step (placed node m before x) ∷ ranked_steps m (before ++ x ∷ []) h

  -- these are the ranked steps of the events of w, each once
  pub record AreRanked (w : World T) (ranked : List RankedStep) : Type 0 where
    pub xs : List (PlacedEvent T)
    pub are : ranked ≡ map ranked_step xs
    pub events : (x : PlacedEvent T) → Contains xs x ↔ IsEventOf node w x
    pub once : IsDistinct bytes_eq (map sort_key xs)
