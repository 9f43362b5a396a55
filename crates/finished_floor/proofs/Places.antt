-- Machines in their places, one of which has one event more.
use Rattle.finished_floor.proofs.Imports.{node_of_sealed, SealedEntry, IsLegal, history, Event, ArePlaced, MachineState}
use Rattle.finished_floor.proofs.Imports.{with_event, machine_of, world_of, List, Some, [], ap, arith, inl, inr, length}
use Rattle.finished_floor.proofs.Imports.{refl, suc, sym, zero, ℕ, ne_eqb, append-nil, length-map, slice_get, slice_set}
use Rattle.finished_floor.proofs.Imports.{nat_tests, IsLegal-none, ◌++◌, ◌<◌, ◌∷◌, ◌≡◌, ◌≢◌, ◌⊎◌, ◌==◌}
use Rattle.finished_floor.proofs.Lists.{only_if}

-- putting something in a place leaves as many
pub length_set : {X : Type 0} (ms : List X) (at : ℕ) (n : X) → length (slice_set ms at n) ≡ length ms
length_set [] at n = refl
length_set (m ∷ ms) zero n = refl
length_set (m ∷ ms) (suc at) n = ap suc (length_set ms at n)

-- their world has as many histories
pub length_world : (ms : List MachineState) → length (world_of ms) ≡ length ms
length_world ms = length-map ms machine_of

-- the other places have the machines that they had
pub get_others : (ms : List MachineState) (at k : ℕ) (n : MachineState) → k ≢ at →
    slice_get (slice_set ms at n) k ≡ slice_get ms k
get_others [] at k n differs = refl
get_others (m ∷ ms) zero zero n differs = absurd (differs refl)
get_others (m ∷ ms) zero (suc k) n differs = refl
get_others (m ∷ ms) (suc at) zero n differs = refl
get_others (m ∷ ms) (suc at) (suc k) n differs = get_others ms at k n (λ s. differs (ap suc s))

-- there is a machine at each place below the count
pub get_within : (ms : List MachineState) (at : ℕ) → at < length ms → (m : MachineState) × (slice_get ms at ≡ Some m)
get_within [] at lt = absurd (omega arith)
get_within (m ∷ ms) zero lt = (m, refl)
get_within (m ∷ ms) (suc at) lt = get_within ms at (omega arith)

-- each history is that of the machine in its place, or has no event
pub history_cases : (ms : List MachineState) (k : ℕ) →
    ((m : MachineState) × (slice_get ms k ≡ Some m) × (history (world_of ms) k ≡ m.events))
    ⊎ (history (world_of ms) k ≡ [])
history_cases [] k = inr refl
history_cases (m ∷ ms) zero = inl (m, refl, refl)
history_cases (m ∷ ms) (suc k) = history_cases ms k

-- so each is legal
pub legal_at : (ms : List MachineState) → ArePlaced ms → (k : ℕ) → IsLegal node_of_sealed k (history (world_of ms) k)
legal_at ms placed k =
    elim (history_cases ms k) [
      | inl (m, there, same) ↦ rw same (rw (placed k m there).number at (placed k m there).machine.legal)
      | inr none ↦ rw none (IsLegal-none node_of_sealed k)
    ]

-- the history of the machine with one event more has it, and the others are as they were
pub history_event : (ms : List MachineState) (at : ℕ) (m : MachineState) (x : Event SealedEntry) →
    slice_get ms at ≡ Some m → (k : ℕ) →
    history (world_of (slice_set ms at (with_event x m))) k ≡ history (world_of ms) k ++ only_if (at == k) x
history_event [] at m x stood k = cc
history_event (n ∷ ms) zero m x stood zero =
    let same : n ≡ m = cc in ap (λ (u : MachineState). u.events ++ x ∷ []) (sym same)
history_event (n ∷ ms) zero m x stood (suc k) = rw (ne_eqb zero (suc k) (λ s. cc), append-nil)
history_event (n ∷ ms) (suc at) m x stood zero = rw (ne_eqb (suc at) zero (λ s. cc), append-nil)
history_event (n ∷ ms) (suc at) m x stood (suc k) = rw (same_suc at k) (history_event ms at m x stood k)
  where
    -- two numbers are one exactly when the next ones are
    same_suc : (a b : ℕ) → (suc a == suc b) ≡ (a == b)
    same_suc a b = grind (arith, nat_tests)
