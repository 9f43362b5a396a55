-- What is left of a list once as many were passed.
use Rattle.machine_floor.proofs.Imports.{◌≡◌, ℕ, zero, suc, ◌≤◌, List, [], ◌∷◌, length, refl, arith, get_or, lists_of}
use Rattle.machine_floor.proofs.Imports.{Global, Vec, drop, length-map}

-- what comes first in the rest of a list
pub drop_step : {X : Type 0} (xs : List X) (n : ℕ) (y : X) (ys : List X) → drop n xs ≡ y ∷ ys →
    ((d : X) → get_or xs n d ≡ y) × (drop (suc n) xs ≡ ys)
drop_step [] zero y ys e = cc
drop_step [] (suc n) y ys e = cc
drop_step (x ∷ xs) zero y ys e = (λ d. cc, cc)
drop_step (x ∷ xs) (suc n) y ys e = drop_step xs n y ys e

-- where nothing is left of a list, as many as it has were passed
pub drop_none : {X : Type 0} (xs : List X) (n : ℕ) → drop n xs ≡ [] → length xs ≤ n
drop_none [] n e = omega arith
drop_none (x ∷ xs) zero e = cc
drop_none (x ∷ xs) (suc n) e = let rest = drop_none xs n e in omega (arith, rest)

-- a list of no length has none
pub none_in : {X : Type 0} (xs : List X) → length xs ≡ 0 → xs ≡ []
none_in [] e = refl
none_in (x ∷ xs) e = absurd (omega arith)

-- there are as many lists as vectors
pub lists_many : {X : Type 0} (vs : List (Vec X Global)) → length (lists_of vs) ≡ length vs
lists_many {X} vs = length-map vs (λ (v : Vec X Global). v.items)
