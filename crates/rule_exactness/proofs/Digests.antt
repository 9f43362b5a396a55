-- Digests of 32 octets, and one that is none of fewer than all of them.
use Rattle.std.proofs.lemmas.List.Sums.{count_by-le-length, length-filter}
use Rattle.rule_exactness.proofs.Imports
use Imports.{[], arith, Bool, cases_Bool, cases_eq, cond, Contains, Contains-cons_cases, Contains-flat_map}
use Imports.{Contains-flat_map_cases, Contains-head, Contains-later, Contains-map, Contains-map_cases, Contains-none}
use Imports.{Contains-one, eq-eqb, false, false_from_ne_true, false≢true, filter, flat_map, inl, inr}
use Imports.{le-length_from_below, length, length-append, length-map, List, list_any, list_any_of, map, mul-le-mul_left}
use Imports.{refl, subst, suc, sym, true, zero, ℕ, ◌%◌, ◌*◌, ◌+◌, ◌/◌, ◌<◌, ◌==◌, ◌^◌, ◌∙◌, ◌∷◌, ◌≡◌, ◌≤◌}

-- the number's octets, the lowest first
abbrev pub octets : ℕ → ℕ → List ℕ
octets zero n = []
octets (suc k) n = n % 256 ∷ octets k (n / 256)

-- the number of octets
abbrev pub number_of : List ℕ → ℕ
number_of [] = 0
number_of (c ∷ cs) = c + 256 * number_of cs

-- they are as many as are asked for
pub length-octets : (k n : ℕ) → length (octets k n) ≡ k
length-octets zero n = refl
length-octets (suc k) n = let rest = length-octets k (n / 256) in omega arith

-- and tell the number, if it is small enough
pub number_of-octets : (k n : ℕ) → n < 256 ^ k → number_of (octets k n) ≡ n
number_of-octets zero n low = omega arith
number_of-octets (suc k) n low =
    let below : n / 256 < 256 ^ k = omega arith in
    let rest = number_of-octets k (n / 256) below in omega arith

-- a filter adds none
pub few_filtered : {X : Type 0} (p : X → Bool) (xs : List X) → length (filter p xs) ≤ length xs
few_filtered p xs = omega (arith, length-filter p xs, count_by-le-length p xs)

-- where none passes, a member doesn't
pub none_of : {X : Type 0} (p : X → Bool) (xs : List X) (x : X) → list_any p xs ≡ false → Contains xs x → p x ≡ false
none_of p xs x none c = false_from_ne_true (p x) (λ e. false≢true (sym none ∙ list_any_of p xs x c e))

-- the highest number up to k that isn't among these, or 0
abbrev pub free : ℕ → List ℕ → ℕ
free zero xs = 0
free (suc k) xs = cond (list_any (◌==◌ (suc k)) xs) (free k xs) (suc k)

-- it is at most k
pub free_low : (k : ℕ) (xs : List ℕ) → free k xs ≤ k
free_low zero xs = omega arith
free_low (suc k) xs = let low = free_low k xs in grind arith

-- if it is among them all up to k are
all_taken : (k : ℕ) (xs : List ℕ) → list_any (◌==◌ (free k xs)) xs ≡ true → (q : ℕ) → q ≤ k →
    list_any (◌==◌ q) xs ≡ true
all_taken zero xs t q l = let none : q ≡ 0 = omega arith in rw none t
all_taken (suc k) xs t q l = elim (cases_Bool (list_any (◌==◌ (suc k)) xs)) [
  | inl last ↦ elim (cases_eq q (suc k))
      [ inl is ↦ rw is last | inr other ↦ all_taken k xs (rw last at t) q (omega (arith, other)) ]
  | inr none ↦ absurd (false≢true (sym none ∙ (rw none at t)))
]

-- of at most k numbers it is none
pub free_new : (k : ℕ) (xs : List ℕ) → length xs ≤ k → Contains xs (free k xs) → ⊥
free_new k xs few c =
    let t = list_any_of (◌==◌ (free k xs)) xs (free k xs) c (eq-eqb (free k xs) (free k xs) refl) in
    let most = le-length_from_below xs (suc k) (λ q l. all_taken k xs t q (omega arith)) in omega arith

-- 32 octets that aren't among these
abbrev pub fresh : List (List ℕ) → List ℕ
fresh ds = octets 32 (free (length ds) (map number_of ds))

-- they are 32
pub fresh_length : (ds : List (List ℕ)) → length (fresh ds) ≡ 32
fresh_length ds = length-octets 32 (free (length ds) (map number_of ds))

-- if they aren't all
pub fresh_new : (ds : List (List ℕ)) → length ds < 256 ^ 32 → Contains ds (fresh ds) → ⊥
fresh_new ds few c =
    let n : ℕ = free (length ds) (map number_of ds) in
    let low = free_low (length ds) (map number_of ds) in
    let same = length-map ds number_of in
    let back : number_of (octets 32 n) ≡ n = number_of-octets 32 n (omega (arith, low, few)) in
    free_new (length ds) (map number_of ds) (omega arith)
    (subst (λ (m : ℕ). Contains (map number_of ds) m) back (Contains-map number_of ds (fresh ds) c))

-- ---- how many there are

-- lists of at most m, joined
flat_length : {X Y : Type 0} (f : X → List Y) (xs : List X) (m : ℕ) → ((x : X) → Contains xs x → length (f x) ≤ m) →
    length (flat_map f xs) ≤ m * length xs
flat_length f [] m each = omega arith
flat_length f (x ∷ xs) m each =
    let first = each x (Contains-head x xs) in
    let rest = flat_length f xs m (λ y c. each y (Contains-later x xs y c)) in
    let all = length-append (f x) (flat_map f xs) in omega arith

-- at most a such lists, joined
pub flat_few : {X Y : Type 0} (f : X → List Y) (xs : List X) (a m : ℕ) → length xs ≤ a →
    ((x : X) → Contains xs x → length (f x) ≤ m) → length (flat_map f xs) ≤ m * a
flat_few f xs a m few each = omega (arith, flat_length f xs m each, mul-le-mul_left m few)

-- all pairs
abbrev pub product : {X Y : Type 0} → List X → List Y → List (X × Y)
product xs ys = flat_map (λ x. map (λ y. (x, y)) ys) xs

-- a pair of members is there
pub Contains-product : {X Y : Type 0} (xs : List X) (ys : List Y) (x : X) (y : Y) → Contains xs x → Contains ys y →
    Contains (product xs ys) (x, y)
Contains-product {X} {Y} xs ys x y cx cy =
    let row = λ (x : X). map (λ (y : Y). (x, y)) ys in
    Contains-flat_map row xs x (x, y) cx (Contains-map (λ (y : Y). (x, y)) ys y cy)

-- and each that is there is one
pub Contains-product_cases : {X Y : Type 0} (xs : List X) (ys : List Y) (p : X × Y) → Contains (product xs ys) p →
    Contains xs p.0 × Contains ys p.1
Contains-product_cases {X} {Y} xs ys p c =
    let (x, cx, among) = Contains-flat_map_cases (λ (x : X). map (λ (y : Y). (x, y)) ys) xs p c in
    let (y, cy, is) = Contains-map_cases (λ (y : Y). (x, y)) ys p among in
    subst (λ (q : X × Y). Contains xs q.0 × Contains ys q.1) is (cx, cy)

-- how many pairs there are at most
pub product_few : {X Y : Type 0} (xs : List X) (ys : List Y) (a b : ℕ) → length xs ≤ a → length ys ≤ b →
    length (product xs ys) ≤ b * a
product_few {X} {Y} xs ys a b few others =
    flat_few (λ (x : X). map (λ (y : Y). (x, y)) ys) xs a b few
    (λ x _. let with_x : Y → X × Y = λ y. (x, y) in let same = length-map ys with_x in omega arith)

-- a row with one more in front
abbrev pub joined : {X : Type 0} → X × List X → List X
joined p = p.0 ∷ p.1

-- all rows of so many of these
abbrev pub rows_of : {X : Type 0} → ℕ → List X → List (List X)
rows_of zero xs = [] ∷ []
rows_of (suc n) xs = map joined (product xs (rows_of n xs))

-- a row of these is there
pub rows_have : {X : Type 0} (xs r : List X) → ((x : X) → Contains r x → Contains xs x) →
    Contains (rows_of (length r) xs) r
rows_have xs [] each = Contains-head [] []
rows_have xs (x ∷ r) each = Contains-map joined (product xs (rows_of (length r) xs)) (x, r)
    (Contains-product xs (rows_of (length r) xs) x r (each x (Contains-head x r))
    (rows_have xs r (λ y c. each y (Contains-later x r y c))))

-- each row that is there is of these
pub rows_each : {X : Type 0} (n : ℕ) (xs r : List X) → Contains (rows_of n xs) r → (x : X) → Contains r x →
    Contains xs x
rows_each zero xs r c x there = absurd (Contains-none x (rw (← Contains-one [] r c) at there))
rows_each (suc n) xs r c x there =
    let (p, among, is) = Contains-map_cases joined (product xs (rows_of n xs)) r c in
    let (first, later) = Contains-product_cases xs (rows_of n xs) p among in
    elim (Contains-cons_cases p.0 p.1 x (rw (← is) at there))
    [ inl same ↦ subst (Contains xs) same first | inr behind ↦ rows_each n xs p.1 later x behind ]

-- how many rows there are of so many of a
abbrev pub power : ℕ → ℕ → ℕ
power a zero = 1
power a (suc n) = power a n * a

-- they are as many at most
pub rows_few : {X : Type 0} (n : ℕ) (xs : List X) (a : ℕ) → length xs ≤ a → length (rows_of n xs) ≤ power a n
rows_few zero xs a few = omega arith
rows_few {X} (suc n) xs a few =
    let all = product_few xs (rows_of n xs) a (power a n) few (rows_few n xs a few) in
    let same = length-map (product xs (rows_of n xs)) joined in omega arith
