-- Lists, and numbers in a row.
use Rattle.rule_engine.proofs.Imports.{[], ap, arith, Bool, cond, Contains, Contains-head, Contains-later, false}
use Rattle.rule_engine.proofs.Imports.{filter, get_or-range_with_len, length-range_with_len, List, map, range_with_len}
use Rattle.rule_engine.proofs.Imports.{refl, slice_get, suc, take, zero, ℕ, ◌++◌, ◌+◌, ◌<◌, ◌∷◌, ◌≡◌, ◌≤◌}

-- the first elements of a list stay where they are
pub slice_get-take : {X : Type 0} (xs : List X) (n i : ℕ) → i < n → slice_get (take n xs) i ≡ slice_get xs i
slice_get-take xs zero i low = absurd (omega arith)
slice_get-take [] (suc n) i low = refl
slice_get-take (x ∷ xs) (suc n) zero low = refl
slice_get-take (x ∷ xs) (suc n) (suc i) low = slice_get-take xs n i (omega arith)

-- numbers in a row are those up to one and those from it on
pub range_append : (a n m b k : ℕ) → a + n ≡ b → n + m ≡ k →
    range_with_len a k ≡ range_with_len a n ++ range_with_len b m
range_append a zero m b k begins all =
    let first : a ≡ b = omega arith in
    let rest : k ≡ m = omega arith in rw (first, rest)
range_append a (suc n) m b zero begins all = absurd (omega arith)
range_append a (suc n) m b (suc k) begins all =
    ap (λ (ks : List ℕ). a ∷ ks) (range_append (a + 1) n m b k (omega arith) (omega arith))

-- each of the numbers in a row is within it
pub range_bounds : (a n i : ℕ) → Contains (range_with_len a n) i → (a ≤ i) × (i < a + n)
range_bounds a n i (k, within, is) =
    let low : k < n = omega (arith, length-range_with_len a n) in
    omega (arith, is, get_or-range_with_len a n k i low)

-- functions that agree on the members of a list give the same list of values
pub map_same : {X : Type 0} (f g : ℕ → X) (xs : List ℕ) → ((i : ℕ) → Contains xs i → f i ≡ g i) → map f xs ≡ map g xs
map_same f g [] same = refl
map_same f g (x ∷ xs) same =
    rw (same x (Contains-head x xs)) (ap (λ ys. g x ∷ ys)
    (map_same f g xs (λ i c. same i (Contains-later x xs i c))))

-- tests that agree on them keep the same members
pub filter_same : (p q : ℕ → Bool) (xs : List ℕ) → ((i : ℕ) → Contains xs i → p i ≡ q i) → filter p xs ≡ filter q xs
filter_same p q [] same = refl
filter_same p q (x ∷ xs) same =
    rw (same x (Contains-head x xs)) (ap (λ (ys : List ℕ). cond (q x) (x ∷ ys) ys)
    (filter_same p q xs (λ i c. same i (Contains-later x xs i c))))

-- a test that fails at each keeps none
pub filter_none : (p : ℕ → Bool) (xs : List ℕ) → ((i : ℕ) → Contains xs i → p i ≡ false) → filter p xs ≡ []
filter_none p [] none = refl
filter_none p (x ∷ xs) none =
    rw (none x (Contains-head x xs)) (filter_none p xs (λ i c. none i (Contains-later x xs i c)))
