-- Which entries of one machine arrive at another.
use Rattle.std.specs.Prelude.{◌≡◌, ℕ, ◌==◌, Bool, false, not, ◌&&◌, List, [], ◌∷◌}
use Rattle.std.specs.List.{filter, list_any, AllPairs}
use Rattle.entry_order.specs.declared.event.Event.{Event}
use Rattle.entry_order.specs.declared.event.Event.TheVariants.{Sent, Got}
use Rattle.entry_order.specs.Node.{Node}
use Rattle.finished_floor.specs.declared.loss.Loss.{Loss}

-- the loss is of this entry of machine `from`, on its way to `to`
abbrev pub is_of : ℕ → ℕ → ℕ → Loss → Bool
is_of from number to loss = (loss.from == from) && ((loss.number == number) && (loss.to == to))

-- one of the losses is
abbrev pub is_lost : List Loss → ℕ → ℕ → ℕ → Bool
is_lost losses from number to = list_any (is_of from number to) losses

-- the losses are of different entries, or on different ways
abbrev pub Differ : Loss → Loss → Type 0
Differ a b = is_of a.from a.number a.to b ≡ false

-- no entry is lost twice on one way
abbrev pub AreOnce : List Loss → Type 0
AreOnce losses = AllPairs Differ losses

-- what a machine got, in order
abbrev pub got : {T : Type 0} → List (Event T) → List T
got [] = []
got (Sent e ∷ h) = got h
got (Got e ∷ h) = e ∷ got h

module _ {T : Type 0} (node : T → Node) where
  -- what it got of one maker, in order
  abbrev pub got_from : ℕ → List (Event T) → List T
  got_from maker h = filter (λ e. (node e).maker == maker) (got h)

  -- those of the entries of machine `from` that aren't lost on their way to `to`
  abbrev pub arriving : List Loss → ℕ → ℕ → List T → List T
  arriving losses from to es = filter (λ e. not (is_lost losses from (node e).number to)) es
