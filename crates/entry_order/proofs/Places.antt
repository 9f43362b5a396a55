-- What is at the places of a list.
use Rattle.entry_order.proofs.Imports.Words
use Words.{Contains, List, Some, [], ap, arith, get_or_from_slice_get, inl, inr, length, refl, slice_get}
use Words.{slice_get_read, slice_get_within, subst, suc, sym, zero, ℕ, ◌++◌, ◌+◌, ◌<◌, ◌∙◌, ◌∷◌, ◌≡◌, ◌⊎◌}
use Rattle.std.{proofs.Common.get_or, proofs.Common.take, proofs.lemmas.List.Elements.All-cons}
use Rattle.std.{proofs.lemmas.List.Elements.All-nil, proofs.lemmas.List.take_more, proofs.lemmas.Option.none-some}
use Rattle.std.{proofs.lemmas.Option.same_Some, specs.List.All}

module _ {X : Type 0} where
  -- what is at a place is a member
  pub member_at : (xs : List X) (i : ℕ) (x : X) → slice_get xs i ≡ Some x → Contains xs x
  member_at xs i x at = (i, slice_get_within xs i x at, get_or_from_slice_get xs i x x at)

  -- a member is at some place of the list
  pub place_of : (xs : List X) (x : X) → Contains xs x → (i : ℕ) × (slice_get xs i ≡ Some x)
  place_of xs x (i, within, is) = (i, slice_get_read xs (length xs) i x refl within (sym is))

  -- at each place within the list is an element
  pub element_at : (xs : List X) (i : ℕ) → i < length xs → (x : X) × (slice_get xs i ≡ Some x)
  element_at [] i within = absurd (omega arith)
  element_at (x ∷ xs) zero within = (x, refl)
  element_at (x ∷ xs) (suc i) within = element_at xs i (omega arith)

  -- an element that is appended is after all others
  pub last_at : (xs : List X) (x : X) → slice_get (xs ++ x ∷ []) (length xs) ≡ Some x
  last_at [] x = refl
  last_at (z ∷ xs) x = last_at xs x

  -- the elements before it keep their places
  pub push_before : (xs : List X) (y : X) (i : ℕ) (x : X) → slice_get xs i ≡ Some x →
      slice_get (xs ++ y ∷ []) i ≡ Some x
  push_before [] y i x at = absurd (none-some x at)
  push_before (z ∷ xs) y zero x at = at
  push_before (z ∷ xs) y (suc i) x at = push_before xs y i x at

  -- at each place is what was there before, or the new element
  pub push_cases : (xs : List X) (y : X) (i : ℕ) (x : X) → slice_get (xs ++ y ∷ []) i ≡ Some x →
      (slice_get xs i ≡ Some x) ⊎ (y ≡ x)
  push_cases [] y zero x at = inr (same_Some y x at)
  push_cases [] y (suc i) x at = absurd (none-some x at)
  push_cases (z ∷ xs) y zero x at = inl at
  push_cases (z ∷ xs) y (suc i) x at = push_cases xs y i x at

  -- the elements up to a place, and the one that is there
  pub taken_more : (xs : List X) (i : ℕ) (x : X) → i < length xs → x ≡ get_or xs i x →
      take (i + 1) xs ≡ take i xs ++ x ∷ []
  taken_more xs i x within is = take_more xs i x within ∙ ap (λ (y : X). take i xs ++ y ∷ []) (sym is)

  -- at one place is one element
  pub one_at : (xs : List X) (i : ℕ) (x y : X) → slice_get xs i ≡ Some x → slice_get xs i ≡ Some y → x ≡ y
  one_at xs i x y at also = same_Some x y (sym at ∙ also)

module _ {X : Type 0} (P : X → Type 0) where
  -- what holds of all holds of what is at a place
  pub all_at : (xs : List X) (i : ℕ) (x : X) → All P xs → slice_get xs i ≡ Some x → P x
  all_at xs i x all at = subst P (get_or_from_slice_get xs i x x at) (all i x (slice_get_within xs i x at))

  -- what holds at each place holds of all
  pub all_from_places : (xs : List X) → ((i : ℕ) (x : X) → slice_get xs i ≡ Some x → P x) → All P xs
  all_from_places [] each = All-nil P
  all_from_places (x ∷ xs) each = All-cons P x xs (each zero x refl) (all_from_places xs (λ i y at. each (suc i) y at))
