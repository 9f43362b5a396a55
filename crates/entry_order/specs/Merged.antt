-- The events of all machines in one order, and what playing them gives.
use Rattle.std.specs.Prelude.{◌≡◌, ℕ, ◌≤◌, List, [], ◌∷◌, ◌++◌, map, length, Option, ◌↔◌}
use Rattle.std.specs.List.{Contains}
use Rattle.std.specs.Cmp.Lexicographic.{slice_cmp}
use Rattle.std.specs.Ordering.{nat_cmp}
use Rattle.std.specs.declared.cmp.Ordering.TheVariants.{Less}
use Rattle.entry_order.specs.declared.event.Event.{Event}
use Rattle.entry_order.specs.declared.event.Event.TheVariants.{Sent, Got}
use Rattle.entry_order.specs.declared.step.Step.{Step}
use Rattle.entry_order.specs.declared.step.Step.TheVariants.{Act, Hear}
use Rattle.entry_order.specs.Node.{Node}
use Rattle.entry_order.specs.History.{held, greatest_stamp}
use Rattle.entry_order.specs.World.{World, start, history, play}
use Rattle.entry_order.specs.Made.{IsMadeBy}
use Rattle.entry_order.specs.Receipt.{IsOrderly}

-- an event with its machine, its place in the history, and the machine's logical clock after it
pub record PlacedEvent (T : Type 0) : Type 0 where
  pub clock : ℕ
  pub machine : ℕ
  pub place : ℕ
  pub event : Event T

-- a sent entry goes before a received one
abbrev pub kind : {T : Type 0} → Event T → ℕ
kind (Sent e) = 0
kind (Got e) = 1

-- what the events are sorted by (Lamport's total order)
abbrev pub sort_key : {T : Type 0} → PlacedEvent T → List ℕ
sort_key x = x.clock ∷ kind x.event ∷ x.machine ∷ x.place ∷ []

-- each has a lower rank than all later ones
abbrev pub IsInSortOrder : {T : Type 0} → List (PlacedEvent T) → Type 0
IsInSortOrder [] = Unit {0}
IsInSortOrder {T} (x ∷ xs) =
    ((y : PlacedEvent T) → Contains xs y → slice_cmp nat_cmp (sort_key x) (sort_key y) ≡ Less)
    × IsInSortOrder xs

module _ {T : Type 0} (node : T → Node) where
  -- the event x of machine m, after the history before; the clock is the greatest stamp then held
  abbrev pub placed : ℕ → List (Event T) → Event T → PlacedEvent T
  placed m before x = record {
    clock = greatest_stamp node (held (before ++ x ∷ []));
    machine = m;
    place = length before;
    event = x;
  }

  -- x is an event of w
  abbrev pub IsEventOf : World T → PlacedEvent T → Type 0
  IsEventOf w x =
      (before : List (Event T)) × (later : List (Event T))
      × (history w x.machine ≡ before ++ x.event ∷ later) × (x ≡ placed x.machine before x.event)

  -- the list has all events of w and nothing else, sorted
  pub record IsMergedOf (w : World T) (xs : List (PlacedEvent T)) : Type 0 where
    pub sorted : IsInSortOrder xs
    pub events : (x : PlacedEvent T) → Contains xs x ↔ IsEventOf w x

  -- the step that makes the event at machine m
  abbrev pub step_of : ℕ → Event T → Step
  step_of m (Sent e) = Act m
  step_of m (Got e) = Hear m (node e).maker (node e).number

  -- every world has a merged order, and only one
  abbrev pub WorldsHaveOneMergedOrder : Type 0
  WorldsHaveOneMergedOrder =
      (w : World T) → (xs : List (PlacedEvent T)) × IsMergedOf w xs
      × ((ys : List (PlacedEvent T)) → IsMergedOf w ys → ys ≡ xs)

  -- playing the events of an orderly world in their merged order gives its histories again
  abbrev pub MergedIsPlayedAgain : Type 0
  MergedIsPlayedAgain =
      (next : ℕ → List (Event T) → Option T) (log : ℕ) (w : World T) →
      IsOrderly node w → IsMadeBy next w → ((m : ℕ) → length (history w m) ≤ log) →
      (xs : List (PlacedEvent T)) → IsMergedOf w xs →
      let steps = map (λ x. step_of x.machine x.event) xs in
      (m : ℕ) → history (play node next log (start (length w)) steps) m ≡ history w m
