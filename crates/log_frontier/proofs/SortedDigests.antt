-- Digests that are sorted, one after another.
use Rattle.log_frontier.proofs.Imports.{[], arith, Contains, Contains-head, Contains-later, Contains-none, Equal, Err}
use Rattle.log_frontier.proofs.Imports.{exact_bytes, false, false≢true, get_or, inl, inr, is_lt, IsWithout, length}
use Rattle.log_frontier.proofs.Imports.{length-take, Less, List, nat_cmp, nat_list_cmp_total, Ok, Ordering, Result}
use Rattle.log_frontier.proofs.Imports.{slice_cmp, sym, take, true, ℕ, ◌++◌, ◌+◌, ◌-◌, ◌<◌, ◌↔◌, ◌∙◌, ◌∷◌, ◌≡◌, ◌≢◌}
use Rattle.entry_order.proofs.Comparisons.{below}
use Rattle.entry_order.specs.Ascending.{IsAscending}
use Rattle.std.proofs.lemmas.List.Elements.{Contains-append_left, Contains-push, Contains-push_cases}
use Rattle.std.proofs.lemmas.List.Sorted.{ranks_by, searchable_from_sorted, sorted_far}
use Rattle.std.proofs.lemmas.List.{get_or-take, get_or_default, take_more}
use Rattle.std.proofs.{Common.◌≤◌, Common.◌⊎◌, lemmas.Bool.cases_lt, lemmas.Cmp.tied_itself}
use Rattle.std.specs.{List.Sorted.IsBinarySearchResult, List.Sorted.IsSearchInRange, Prelude.is_err, Prelude.IsSorted}

-- the order of digests
abbrev pub compare : List ℕ → List ℕ → Ordering
compare = slice_cmp nat_cmp

-- a later digest of a sorted list isn't below an earlier one
not_below : (xs : List (List ℕ)) → IsSorted compare xs → (i j : ℕ) → i ≤ j → j < length xs →
    is_lt (compare (get_or xs j []) (get_or xs i [])) ≡ false
not_below xs sorted i j le within =
    sorted_far (λ x y. is_lt (compare x y)) (ranks_by nat_list_cmp_total (λ x. x)) xs sorted i j [] le within

-- what a search that failed says
pub not_found : (xs : List (List ℕ)) (x : List ℕ) (r : Result ℕ ℕ) → IsSorted compare xs →
    IsBinarySearchResult (λ y. compare y x) xs r → is_err r ≡ true → ¬ Contains xs x
not_found xs x (Ok i) sorted found err = λ _. false≢true err
not_found xs x (Err i) sorted found err = λ (k, within, is).
    let split = found (searchable_from_sorted nat_list_cmp_total (λ y. y) xs x sorted) in
    let level : compare (get_or xs k x) x ≡ Equal = rw is (tied_itself nat_list_cmp_total x) in
    elim (cases_lt k i) [
      | inl before ↦ (let e = split.0 k x (omega arith) before in cc)
      | inr after ↦ (let e = split.1 k x after within in cc)
    ]

-- what a search that succeeded says
pub is_found : (xs : List (List ℕ)) (x : List ℕ) (r : Result ℕ ℕ) → IsSearchInRange r (length xs) →
    IsBinarySearchResult (λ y. compare y x) xs r → is_err r ≡ false → Contains xs x
is_found xs x (Ok i) within found err = (i, within, exact_bytes (get_or xs i x) x (found x))
is_found xs x (Err i) within found err = absurd (false≢true (sym err))

-- one digest more at the end
ascending_more : (ds : List (List ℕ)) (d : List ℕ) → IsAscending ds →
    ((c : List ℕ) → Contains ds c → compare c d ≡ Less) → IsAscending (ds ++ d ∷ [])
ascending_more [] d rises low = (λ c h. absurd (Contains-none c h), tt)
ascending_more (e ∷ ds) d rises low = (
  λ c h. elim (Contains-push_cases ds d c h)
      [ inl before ↦ rises.0 c before | inr is ↦ rw is at (low e (Contains-head e ds)) ],
  ascending_more ds d rises.1 (λ c h. low c (Contains-later e ds c h)),
)

module _ (named : List (List ℕ)) (i : ℕ) (within : i < length named) where
  -- the digest at the place, and the one before it
  abbrev this : List ℕ
  this = get_or named i []

  abbrev previous : List ℕ
  previous = get_or named (i - 1) []

  -- the digest before the place is among those up to it
  taken_previous : 0 < i → Contains (take i named) previous
  taken_previous some =
      let is : get_or (take i named) (i - 1) previous ≡ previous =
      get_or-take i named (i - 1) previous (omega arith) ∙ get_or_default named (i - 1) previous [] (omega arith) in
      (i - 1, omega (arith, length-take i named), is)

  -- the digests before one that is new are below it
  lower : IsSorted compare named → (0 < i → previous ≢ this) → (c : List ℕ) → Contains (take i named) c →
      compare c this ≡ Less
  lower sorted new c (k, taken, is) =
      let earlier : k < i = omega (arith, length-take i named) in
      let here : get_or named k [] ≡ c =
      get_or_default named k [] c (omega arith) ∙ sym (get_or-take i named k c earlier) ∙ is in
      below c this (rw here at (not_below named sorted k i (omega arith) within)) (λ same.
      let low = rw here at (not_below named sorted k (i - 1) (omega arith) (omega arith)) in
      let less =
      below previous this (not_below named sorted (i - 1) i (omega arith) within) (new (omega arith)) in
      cc)

  -- what is found up to the next place is what was found, and the digest here if it is in neither list
  further : (borne found now : List (List ℕ)) → IsAscending now →
      ((c : List ℕ) → Contains now c ↔ (Contains found c ⊎ ((this ≡ c) × (¬ Contains borne c)))) →
      IsWithout (take i named) borne found → IsWithout (take (i + 1) named) borne now
  further borne found now rises is so_far =
      let more = take_more named i [] within in
      record {
        rises = rises;
        members = λ c. (
          (λ h. elim ((is c).0 h) [
            | inl old ↦
                let (there, missing) = (so_far.members c).0 old in
                (rw more (Contains-append_left (take i named) (this ∷ []) c there), missing)
            | inr (same, missing) ↦ (rw (more, ← same) (Contains-push (take i named) this), missing)
          ]),
          (λ (h, missing). (is c).1 (elim (Contains-push_cases (take i named) this c (rw more at h)) [
            | inl before ↦ inl ((so_far.members c).1 (before, missing))
            | inr same ↦ inr (same, missing)
          ])),
        );
      }

  -- a digest isn't taken up where an entry has it, or where it equals the digest before it
  pub skips : (borne found : List (List ℕ)) → Contains borne this ⊎ ((0 < i) × (previous ≡ this)) →
      IsWithout (take i named) borne found → IsWithout (take (i + 1) named) borne found
  skips borne found why so_far =
      further borne found found so_far.rises (λ c. (
        λ h. inl h,
        λ h. elim h [
          | inl old ↦ old
          | inr (same, missing) ↦ elim why [
            | inl there ↦ absurd (missing (rw same at there))
            | inr (some, again) ↦ (so_far.members c).1 (rw (again, same) at (taken_previous some), missing)
          ]
        ],
      )) so_far

  -- a digest that is taken up
  pub takes_up : (borne found : List (List ℕ)) → IsSorted compare named → ¬ Contains borne this →
      (0 < i → previous ≢ this) → IsWithout (take i named) borne found →
      IsWithout (take (i + 1) named) borne (found ++ this ∷ [])
  takes_up borne found sorted missing new so_far =
      further borne found (found ++ this ∷ [])
      (ascending_more found this so_far.rises (λ c h. lower sorted new c ((so_far.members c).0 h).0))
      (λ c. (
        λ h. elim (Contains-push_cases found this c h)
            [ inl old ↦ inl old | inr same ↦ inr (same, rw (← same) missing) ],
        λ h. elim h [
          | inl old ↦ Contains-append_left found (this ∷ []) c old
          | inr (same, _) ↦ rw (← same) (Contains-push found this)
        ],
      )) so_far
