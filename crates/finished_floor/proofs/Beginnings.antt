-- Machines before anything happened.
use Rattle.finished_floor.proofs.Imports.{Script, node_of_sealed, history, AreOnce, IsBalanced, AreOfSent, IsAt}
use Rattle.finished_floor.proofs.Imports.{AreOnWay, waits_of, Loss, Waiting, IsFresh, IsMachine, MachineState, world_of}
use Rattle.finished_floor.proofs.Imports.{List, Option, Some, [], ap, arith, length, length-append, refl, subst, suc}
use Rattle.finished_floor.proofs.Imports.{sym, zero, ℕ, slice_get, ◌++◌, ◌+◌, ◌∙◌, ◌∷◌, ◌≡◌}

-- a fresh machine has its place, and no events
pub fresh_at : (script : Script) (at : ℕ) (stop : Option ℕ) (m : MachineState) → IsFresh script at stop m →
    IsMachine m → IsAt at m
fresh_at script at stop m fresh machine = record {
  number = ap (λ (u : MachineState). u.config.number) fresh.2;
  machine = machine;
  unmarked = ap (λ (u : MachineState). u.marked) fresh.2;
}

-- it has no events
pub fresh_events : (script : Script) (at : ℕ) (stop : Option ℕ) (m : MachineState) → IsFresh script at stop m →
    m.events ≡ []
fresh_events script at stop m fresh = ap (λ (u : MachineState). u.events) fresh.2

-- what is true of each of the machines, by its place, and of one more
pub each_push : (P : ℕ → MachineState → Type 0) (ms : List MachineState) (m : MachineState) →
    ((k : ℕ) (u : MachineState) → slice_get ms k ≡ Some u → P k u) → P (length ms) m →
    (k : ℕ) (u : MachineState) → slice_get (ms ++ m ∷ []) k ≡ Some u → P k u
each_push P [] m each last zero u is = let same : m ≡ u = cc in rw (← same) last
each_push P [] m each last (suc k) u is = cc
each_push P (x ∷ ms) m each last zero u is = each zero u is
each_push P (x ∷ ms) m each last (suc k) u is =
    each_push (λ i. P (suc i)) ms m (λ i v h. each (suc i) v h) last k u is

-- none of the machines has events
abbrev pub AreEmpty : List MachineState → Type 0
AreEmpty ms = (k : ℕ) (u : MachineState) → slice_get ms k ≡ Some u → u.events ≡ []

-- so all histories of their world are empty
pub none_in : (ms : List MachineState) → AreEmpty ms → (k : ℕ) → history (world_of ms) k ≡ []
none_in [] empty k = refl
none_in (m ∷ ms) empty zero = empty zero m refl
none_in (m ∷ ms) empty (suc k) = none_in ms (λ i u is. empty (suc i) u is) k

-- nothing was sent, so all is accounted for
pub new_balanced : (ms : List MachineState) → AreEmpty ms →
    IsBalanced node_of_sealed (length ms) (history (world_of ms)) [] (λ a b. [])
new_balanced ms empty a b la lb apart =
    rw (none_in ms empty a, none_in ms empty b)

-- and no list that is empty asks for anything
module _ (ms : List MachineState) (losses : List Loss) (ws : List Waiting) (no_losses : losses ≡ [])
    (none : ws ≡ []) where
  -- what was got and what waits is what was sent and isn't lost: nothing
  pub start_balanced : AreEmpty ms →
      IsBalanced node_of_sealed (length ms) (history (world_of ms)) losses (waits_of ws)
  start_balanced empty = rw (no_losses, none) (new_balanced ms empty)

  -- no entry is lost twice on one way
  pub start_once : AreOnce losses
  start_once = rw no_losses (λ i j d lt within. absurd (omega arith))

  -- each loss is of an entry that was sent, for there is none
  pub start_of_sent : AreOfSent ms losses
  start_of_sent = rw no_losses (λ k d lt. absurd (omega arith))

  -- at the start nothing waits, so all that waits is on its way
  pub start_on_way : AreOnWay (length ms) ws
  start_on_way = rw none (λ k d lt. absurd (omega arith))

-- one machine more, in its place and without events
pub new_push : (ms more : List MachineState) (m : MachineState) (at : ℕ) → length ms ≡ at →
    ((k : ℕ) (u : MachineState) → slice_get ms k ≡ Some u → IsAt k u × (u.events ≡ [])) → IsAt at m → m.events ≡ [] →
    more ≡ ms ++ m ∷ [] →
    (length more ≡ at + 1)
    × ((k : ℕ) (u : MachineState) → slice_get more k ≡ Some u → IsAt k u × (u.events ≡ []))
new_push ms more m at count each here empty is =
    let len : length more ≡ length ms + 1 = ap length is ∙ length-append ms (m ∷ []) in (
      omega arith,
      λ k u there.
          each_push (λ i v. IsAt i v × (v.events ≡ [])) ms m each (subst (λ i. IsAt i m) (sym count) here, empty) k u
          (ap (λ (l : List MachineState). slice_get l k) (sym is) ∙ there),
    )
