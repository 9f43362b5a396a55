-- Lists in pairs, and lists of which members meet a test.
use Rattle.honest_places.proofs.Imports
use Imports.{[], All-contains, All-contains_itself, All-take, AllZip, ap, arith, Bool, cond, Contains}
use Imports.{Contains-cons_cases, Contains-head, Contains-later, count_by, false, get_or-le-sum_by, get_or-take}
use Imports.{get_or_from_slice_get, inl, inr, length-take, List, list_any, list_any_of, list_any_some, slice_get}
use Imports.{slice_get_within, Some, subst, sum_by_more_le, sym, take, true, ℕ, ◌<◌, ◌∙◌, ◌∷◌, ◌≡◌}
use Rattle.std.proofs.lemmas.Bool.{false_from_ne_true, false≢true}

-- what is among the first is among all
pub Contains-take : {X : Type 0} (xs : List X) (k : ℕ) (x : X) → Contains (take k xs) x → Contains xs x
Contains-take xs k x = All-contains (Contains xs) (take k xs) x (All-take (Contains xs) k xs (All-contains_itself xs))

module _ {A B : Type 0} (R : A → B → Type 0) where
  -- what is in the second of two lists is paired with a member of the first
  pub zip_right : (xs : List A) (ys : List B) → AllZip R xs ys → (y : B) → Contains ys y →
      (x : A) × Contains xs x × R x y
  zip_right (x ∷ xs) (z ∷ ys) all y inside =
      elim (Contains-cons_cases z ys y inside) [
        | inl is ↦ (x, Contains-head x xs, subst (R x) is all.0)
        | inr later ↦ (let (u, there, pair) = zip_right xs ys all.1 y later in (u, Contains-later x xs u there, pair))
      ]
  zip_right [] [] all y (k, within, is) = absurd (omega arith)
  zip_right xs ys all y inside = absurd all

  -- the pairs the other way round
  zip_back : (xs : List A) (ys : List B) → AllZip R xs ys → AllZip (λ y x. R x y) ys xs
  zip_back [] [] all = tt
  zip_back (x ∷ xs) (y ∷ ys) all = (all.0, zip_back xs ys all.1)
  zip_back xs ys all = absurd all

  -- what follows of each pair follows of all
  pub zip_more : (Q : A → B → Type 0) (xs : List A) (ys : List B) → AllZip R xs ys →
      ((x : A) (y : B) → Contains xs x → R x y → Q x y) → AllZip Q xs ys
  zip_more Q [] [] all follows = tt
  zip_more Q (x ∷ xs) (y ∷ ys) all follows =
      (follows x y (Contains-head x xs) all.0, zip_more Q xs ys all.1 (λ u v c. follows u v (Contains-later x xs u c)))
  zip_more Q xs ys all follows = absurd all

-- what is in the first list is paired with a member of the second
pub zip_left : {A B : Type 0} (R : A → B → Type 0) (xs : List A) (ys : List B) → AllZip R xs ys → (x : A) →
    Contains xs x → (y : B) × Contains ys y × R x y
zip_left R xs ys all = zip_right (λ y x. R x y) ys xs (zip_back R xs ys all)

module _ {X : Type 0} (p : X → Bool) where
  -- where none passes, a member doesn't
  pub none_passes : (xs : List X) → list_any p xs ≡ false → (x : X) → Contains xs x → p x ≡ false
  none_passes xs none x c = false_from_ne_true (p x) (λ is. false≢true (sym none ∙ list_any_of p xs x c is))

  -- where no member passes, none does
  pub none_of : (xs : List X) → ((x : X) → Contains xs x → p x ≡ false) → list_any p xs ≡ false
  none_of xs each =
      false_from_ne_true (list_any p xs)
      (λ some. let (x, c, is) = list_any_some p xs some in false≢true (sym (each x c) ∙ is))

  -- two that pass are counted twice
  two_pass : (xs : List X) (i j : ℕ) (x y : X) → slice_get xs i ≡ Some x → slice_get xs j ≡ Some y → p x ≡ true →
      p y ≡ true → i < j → 1 < count_by p xs
  two_pass xs i j x y is js t u less =
      let one = λ (b : Bool). cond {A = ℕ} b 1 0 in
      let f = λ (z : X). one (p z) in
      let first = ap one (ap p (get_or-take j xs i x less ∙ get_or_from_slice_get xs i x x is) ∙ t) in
      let second = ap one (ap p (get_or_from_slice_get xs j y x js) ∙ u) in
      let within = slice_get_within xs j y js in
      omega (arith, first, second, get_or-le-sum_by f (take j xs) i x, sum_by_more_le f xs j x within, length-take j xs)

  -- where exactly one is counted, members that pass are at one place
  pub one_passes : (xs : List X) → count_by p xs ≡ 1 → (i j : ℕ) (x y : X) → slice_get xs i ≡ Some x →
      slice_get xs j ≡ Some y → p x ≡ true → p y ≡ true → i ≡ j
  one_passes xs one i j x y is js t u =
      let less : i < j → ⊥ = λ l. (let two = two_pass xs i j x y is js t u l in omega (arith, one, two)) in
      let more : j < i → ⊥ = λ l. (let two = two_pass xs j i y x js is u t l in omega (arith, one, two)) in
      omega (arith, less, more)
