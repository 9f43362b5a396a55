-- How many entries of each machine are reached from one entry, as it is counted.
use Rattle.std.specs.Prelude.{ℕ, zero, suc, ◌+◌, ◌-◌, Bool, ◌&&◌, nat_lt, nat_le, ◌==◌}
use Rattle.std.specs.Prelude.{if◌then◌else◌, List, [], ◌∷◌, length, replicate, slice_index, slice_set}
use Rattle.entry_order.specs.declared.event.Event.{Event}
use Rattle.entry_order.specs.declared.event.Event.TheVariants.{Sent, Got}
use Rattle.entry_order.specs.Node.{Node}
use Rattle.entry_order.specs.History.{held, greatest_stamp}
use Rattle.entry_order.specs.World.{Machine, World, history}

-- the maker's count takes the entry with this number in
abbrev pub raised : List ℕ → ℕ → ℕ → List ℕ
raised counts maker number =
    if nat_lt maker (length counts) && nat_le (slice_index counts maker) number
    then slice_set counts maker (number + 1)
    else counts

module _ {T : Type 0} (node : T → Node) where
  -- the counts take in what was held when the sender sent its entry with this number
  abbrev pub taken_in : List (Event T) → ℕ → List ℕ → List ℕ
  taken_in [] n counts = counts
  taken_in (Sent e ∷ h) zero counts = counts
  taken_in (Sent e ∷ h) (suc n) counts = taken_in h n (raised counts (node e).maker (node e).number)
  taken_in (Got e ∷ h) n counts = taken_in h n (raised counts (node e).maker (node e).number)

  -- a machine's last entry that is counted has its past taken in
  abbrev pub spread_one : Machine T → ℕ → List ℕ → List ℕ
  spread_one a place counts =
      if slice_index counts place == 0
      then counts
      else taken_in a.history (slice_index counts place - 1) counts

  -- each machine in turn, from this place on
  abbrev pub spread : World T → ℕ → List ℕ → List ℕ
  spread [] place counts = counts
  spread (a ∷ w) place counts = spread w (place + 1) (spread_one a place counts)

  abbrev pub spread_times : ℕ → World T → List ℕ → List ℕ
  spread_times zero w counts = counts
  spread_times (suc n) w counts = spread w 0 (spread_times n w counts)

  -- whether a's entry i is counted from b's entry j, after as many rounds as b's clock says
  abbrev pub is_held_before : World T → ℕ → ℕ → ℕ → ℕ → Bool
  is_held_before w a i b j =
      let first = taken_in (history w b) j (replicate (length w) 0) in
      let counts = spread_times (greatest_stamp node (held (history w b))) w first in
      nat_lt i (slice_index counts a)
