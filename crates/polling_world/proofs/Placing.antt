-- Machines in their places, and the world that they are.
use Rattle.polling_world.proofs.Imports.{◌≡◌, ◌∙◌, ℕ, zero, suc, ◌<◌, ◌⊎◌, inl, inr, List, [], ◌∷◌, length, map}
use Rattle.polling_world.proofs.Imports.{refl, sym, ap, slice_get, slice_set, slice_index_or, option_map, Contains}
use Rattle.polling_world.proofs.Imports.{get_or_from_slice_get, slice_get-get_or, slice_get-map, or-false, map-set}
use Rattle.polling_world.proofs.Imports.{set-get_or, member_at, SealedEntry, Event, sent, Machine, World, history}
use Rattle.polling_world.proofs.Imports.{history_of, sent_in, with_machine, append, sent_in_from, Contains-sent_cases}
use Rattle.polling_world.proofs.Imports.{MachineState, has_stopped, with_event, machine_of, world_of}
use Rattle.std.proofs.Common.{Some, None}

-- an entry with its maker and number was sent
pub sent_at_sent : {T : Type 0} (w : World T) (m n : ℕ) (e : T) → slice_get (sent (history w m)) n ≡ Some e →
    Contains (sent_in w) e
sent_at_sent w m n e is =
    sent_in_from w m e (Contains-sent_cases (history w m) e (member_at (sent (history w m)) n e is))

module _ {X Y : Type 0} (f : X → Y) where
  -- the value at a place is that of the item there
  pub get-map : (xs : List X) (i : ℕ) (x : X) → slice_get xs i ≡ Some x → slice_get (map f xs) i ≡ Some (f x)
  get-map xs i x e = slice_get-map f xs i ∙ ap (option_map f) e

  -- each value of a mapped list at a place is made of the item at that place
  pub get-map_from : (xs : List X) (i : ℕ) (y : Y) → slice_get (map f xs) i ≡ Some y →
      (x : X) × (slice_get xs i ≡ Some x) × (f x ≡ y)
  get-map_from [] i y e = cc
  get-map_from (x ∷ xs) zero y e = (x, refl, cc)
  get-map_from (x ∷ xs) (suc i) y e = get-map_from xs i y e

module _ {X : Type 0} where
  -- an item that is put back where it is changes nothing
  pub set_same : (xs : List X) (i : ℕ) (x : X) → slice_get xs i ≡ Some x → slice_set xs i x ≡ xs
  set_same xs i x e = ap (slice_set xs i) (sym (get_or_from_slice_get xs i x x e)) ∙ set-get_or xs i x

  -- what was put in a place is there
  pub set_get : (xs : List X) (i : ℕ) (x y : X) → slice_get xs i ≡ Some x → slice_get (slice_set xs i y) i ≡ Some y
  set_get [] i x y e = cc
  set_get (z ∷ xs) zero x y e = refl
  set_get (z ∷ xs) (suc i) x y e = set_get xs i x y e

  -- what is somewhere once a place was written was there, or is what was written
  pub set_cases : (xs : List X) (i n : ℕ) (x y z : X) → slice_get xs i ≡ Some x →
      slice_get (slice_set xs i y) n ≡ Some z → ((n ≡ i) × (y ≡ z)) ⊎ (slice_get xs n ≡ Some z)
  set_cases [] i n x y z e is = cc
  set_cases (v ∷ xs) zero zero x y z e is = inl (refl, cc)
  set_cases (v ∷ xs) zero (suc n) x y z e is = inr is
  set_cases (v ∷ xs) (suc i) zero x y z e is = inr is
  set_cases (v ∷ xs) (suc i) (suc n) x y z e is =
      elim (set_cases xs i n x y z e is) [ inl s ↦ inl (ap suc s.0, s.1) | inr s ↦ inr s ]

-- what is put in a place and looks the same changes nothing that is seen
pub map-set_same : {X Y : Type 0} (f : X → Y) (xs : List X) (i : ℕ) (x y : X) → slice_get xs i ≡ Some x → f y ≡ f x →
    map f (slice_set xs i y) ≡ map f xs
map-set_same f xs i x y e same =
    map-set f xs i y ∙ ap (slice_set (map f xs) i) same ∙ set_same (map f xs) i (f x) (get-map f xs i x e)

-- the world once a machine in it was changed
pub world_of-set : (ms : List MachineState) (at : ℕ) (m new : MachineState)
    (change : Machine SealedEntry → Machine SealedEntry) → slice_get ms at ≡ Some m →
    machine_of new ≡ change (machine_of m) → world_of (slice_set ms at new) ≡ with_machine at change (world_of ms)
world_of-set [] at m new change e is = cc
world_of-set (n ∷ ms) zero m new change e is =
    let here : n ≡ m = cc in
    ap (λ (a : Machine SealedEntry). a ∷ world_of ms)
    (is ∙ ap (λ (u : MachineState). change (machine_of u)) (sym here))
world_of-set (n ∷ ms) (suc at) m new change e is =
    ap (λ (w : World SealedEntry). machine_of n ∷ w) (world_of-set ms at m new change e is)

-- the history of a machine
pub history_there : (ms : List MachineState) (at : ℕ) (m : MachineState) → slice_get ms at ≡ Some m →
    history (world_of ms) at ≡ m.events
history_there ms at m e = ap history_of (get-map machine_of ms at m e)

-- the history of a machine by its place
pub history_at : (ms : List MachineState) (at : ℕ) (d : MachineState) → at < length ms →
    history (world_of ms) at ≡ (slice_index_or ms at d).events
history_at ms at d l = history_there ms at (slice_index_or ms at d) (slice_get-get_or ms at d l)

-- a machine with no stop of its own has stopped where it was marked
pub stopped_by_mark : (m : MachineState) → m.stop ≡ None → has_stopped m ≡ m.marked
stopped_by_mark m none = rw none (or-false m.marked)

-- an event appends to the history of a machine with no stop of its own
pub machine_of-event : (m : MachineState) (x : Event SealedEntry) → m.stop ≡ None →
    machine_of (with_event x m) ≡ append x (machine_of m)
machine_of-event m x none = rw none
