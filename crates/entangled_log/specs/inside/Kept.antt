-- What the type of a log keeps.
use Rattle.std.specs.Prelude.{◌≡◌, ℕ, ◌≤◌, ◌+◌, List, [], ◌∷◌, ◌++◌, map, length, slice_get, Some}
use Rattle.entry_order.specs.declared.event.Event.{Event}
use Rattle.entry_order.specs.declared.event.Event.TheVariants.{Sent, Got}
use Rattle.entry_order.specs.Node.{Node}
use Rattle.entry_order.specs.History.{entry_of, held, sent, greatest_stamp, IsLegal}
use Rattle.log_frontier.specs.Places.{Places, StandsFor}

-- at these places is what was sent, in order
abbrev pub AreOwn : {T : Type 0} → List (Event T) → List ℕ → Type 0
AreOwn events own = map (λ p. slice_get events p) own ≡ map (λ e. Some (Sent e)) (sent events)

-- the places of what was sent once the event at this place is there too
abbrev pub own_after : {T : Type 0} → Event T → ℕ → List ℕ → List ℕ
own_after (Sent e) place own = own ++ place ∷ []
own_after (Got e) place own = own

-- the history is legal and within its capacity, the frontier stands for it, `own` are the places of
-- what was sent and `top` the greatest stamp; and what may still come has its room among the
-- events, in the frontier and among the places
pub record IsKept {T : Type 0} (node : T → Node) (owner capacity : ℕ) (events : List (Event T))
    (frontier : Places) (own : List ℕ) (top room own_room : ℕ) : Type 0 where
  pub legal : IsLegal node owner events
  pub within : length events ≤ capacity
  pub stands : StandsFor (λ x. node (entry_of x)) events frontier
  pub own_places : AreOwn events own
  pub greatest : top ≡ greatest_stamp node (held events)
  pub reserved : capacity ≤ room
  pub spare : capacity ≤ length events + frontier.spare
  pub own_reserved : capacity ≤ own_room
