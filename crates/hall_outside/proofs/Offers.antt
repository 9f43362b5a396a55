-- Calls that are each offered all that is left.
use Rattle.hall_outside.proofs.Imports.{arith, Bool, Failed, false, false≢true, HasCause, List, OffersAll, PutsFile}
use Rattle.hall_outside.proofs.Imports.{Result, true, ℕ, ◌<◌, ◌≡◌}

-- what is still to be offered completes what was begun
abbrev pub Continues : {S : Type 0} → (S → List ℕ → Result ℕ Failed → S → Type 0) → S → S → List ℕ → List ℕ → Type 0
Continues {S} step start now bytes left =
    (ok : Bool) (end : S) → OffersAll step now left ok end → OffersAll step start bytes ok end

-- what is still to be offered completes what was begun with a create
abbrev pub Creates : {S : Type 0} → (S → Bool → S → Type 0) → (S → List ℕ → Result ℕ Failed → S → Type 0) → S → S
    → List ℕ → List ℕ → Type 0
Creates {S} create step start now bytes left =
    (ok : Bool) (end : S) → OffersAll step now left ok end → PutsFile create step start bytes ok end

-- a count is unchanged where what it counts didn't come
pub unrisen : (before now : ℕ) → HasCause before now (false ≡ true) → now ≡ before
unrisen before now cause =
    let stays : before < now → ⊥ = λ risen. false≢true (cause.always risen) in
    let never = cause.never_falls in
    omega (arith, never, stays)
