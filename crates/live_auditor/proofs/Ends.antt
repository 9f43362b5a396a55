-- Lists with one element more at their end, and the first elements of lists.
use Rattle.live_auditor.proofs.Imports.{[], arith, length, List, slice_get}
use Rattle.live_auditor.proofs.Imports.{slice_get-take, Some, suc, take, zero, ℕ, ◌++◌, ◌<◌, ◌∷◌, ◌≡◌, ◌⊎◌}

-- the first elements are where they were
pub slice_get_take : {X : Type 0} (n : ℕ) (xs : List X) (i : ℕ) → i < n → slice_get (take n xs) i ≡ slice_get xs i
slice_get_take n xs = slice_get-take xs n

-- a place of a list with one element more is one of the list, or the last
pub at_cases : {X : Type 0} (xs : List X) (x : X) (i : ℕ) (y : X) → slice_get (xs ++ x ∷ []) i ≡ Some y →
    ((i < length xs) × (slice_get xs i ≡ Some y)) ⊎ ((i ≡ length xs) × (y ≡ x))
at_cases [] x zero y stands = grind arith
at_cases [] x (suc i) y stands = grind arith
at_cases (z ∷ xs) x zero y stands = grind arith
at_cases (z ∷ xs) x (suc i) y stands = grind (arith, at_cases xs x i y stands)
