-- Lists of which each element is related to each later one.
use Rattle.auditorium_core.proofs.Imports.{AllPairs, cases_order, Contains, get_or_from_slice_get, inl, inr, List}
use Rattle.auditorium_core.proofs.Imports.{one_at, place_of, slice_get, slice_get_within, Some, ℕ, ◌<◌, ◌≡◌}

module _ {X : Type 0} (R : X → X → Type 0) (xs : List X) (all : AllPairs R xs) where
  -- what is at a place is related to what is at a later one
  pair_at : (i j : ℕ) (x y : X) → i < j → slice_get xs i ≡ Some x → slice_get xs j ≡ Some y → R x y
  pair_at i j x y below here there =
      rw (get_or_from_slice_get xs i x x here, get_or_from_slice_get xs j y x there) at
      (all i j x below (slice_get_within xs j y there))

  -- what isn't related, one way or the other, is at one place
  pub same_place : (i j : ℕ) (x y : X) → slice_get xs i ≡ Some x → slice_get xs j ≡ Some y → ¬ R x y → ¬ R y x → i ≡ j
  same_place i j x y here there first second =
      elim (cases_order i j) [
        | inl same ↦ same
        | inr (inl below) ↦ absurd (first (pair_at i j x y below here there))
        | inr (inr above) ↦ absurd (second (pair_at j i y x above there here))
      ]

  -- so it is one element
  pub same_member : (x y : X) → Contains xs x → Contains xs y → ¬ R x y → ¬ R y x → x ≡ y
  same_member x y inside also first second =
      let (i, here) = place_of xs x inside in
      let (j, there) = place_of xs y also in
      one_at xs i x y here (rw (same_place i j x y here there first second) there)
