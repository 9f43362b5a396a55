-- Digests ascend where each is below the next.
use Rattle.entry_format.proofs.Imports.{[], arith, Contains-none, get_or, inl, inr, IsAscending, length, List, refl, ℕ}
use Rattle.entry_format.proofs.Imports.{◌-◌, ◌<◌, ◌∷◌, ◌≡◌}
use Rattle.entry_order.proofs.Lists.{Contains-cons_cases}
use Rattle.std.proofs.{Common.suc, Common.zero, Common.◌+◌, lemmas.Bool.cases_lt, lemmas.Cmp.nat_list_cmp_total}
use Rattle.std.specs.{Cmp.Lexicographic.slice_cmp, declared.cmp.Ordering.TheVariants.Less, Ordering.nat_cmp}

-- each of the first `count` digests is below the one before it
abbrev pub RisesTo : ℕ → List (List ℕ) → Type 0
RisesTo count ds = (k : ℕ) → suc k < count → slice_cmp nat_cmp (get_or ds k []) (get_or ds (suc k) []) ≡ Less

-- digests ascend where each is below the next
pub ascends : (ds : List (List ℕ)) → RisesTo (length ds) ds → IsAscending ds
ascends [] rises = tt
ascends (d ∷ []) rises = (λ c h. absurd (Contains-none c h), tt)
ascends (d ∷ e ∷ ds) rises =
    let below : slice_cmp nat_cmp d e ≡ Less = rises 0 (omega arith) in
    let rest : IsAscending (e ∷ ds) = ascends (e ∷ ds) (λ k within. rises (suc k) (omega arith)) in (
      λ c h. elim (Contains-cons_cases e ds c h)
          [ inl is ↦ rw is at below | inr later ↦ nat_list_cmp_total.trans d e c below (rest.0 c later) ],
      rest,
    )

-- in ascending digests each is below the one after it
ascends_at : (ds : List (List ℕ)) (k : ℕ) → IsAscending ds → suc k < length ds →
    slice_cmp nat_cmp (get_or ds k []) (get_or ds (suc k) []) ≡ Less
ascends_at (d ∷ e ∷ ds) zero h within = h.0 e (0, omega arith, refl)
ascends_at (d ∷ e ∷ ds) (suc k) h within = ascends_at (e ∷ ds) k h.1 (omega arith)
ascends_at ds k h within = absurd (omega arith)

-- one digest more
pub rises_more : (ds : List (List ℕ)) (i : ℕ) → RisesTo i ds → 0 < i →
    slice_cmp nat_cmp (get_or ds (i - 1) []) (get_or ds i []) ≡ Less → RisesTo (i + 1) ds
rises_more ds i rises some less k within =
    elim (cases_lt (suc k) i) [
      | inl earlier ↦ rises k earlier
      | inr last ↦
          let before : i - 1 ≡ k = omega arith in
          let here : i ≡ suc k = omega arith in
          rw (before, here) at less
    ]

-- in ascending digests each is below the next
pub ascends_before : (ds : List (List ℕ)) (i : ℕ) → IsAscending ds → 0 < i → i < length ds →
    slice_cmp nat_cmp (get_or ds (i - 1) []) (get_or ds i []) ≡ Less
ascends_before ds i rises some within =
    let next : suc (i - 1) ≡ i = omega arith in rw next at (ascends_at ds (i - 1) rises (omega arith))
