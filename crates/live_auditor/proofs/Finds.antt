-- What is found of the names of an entry, and of an appended one.
use Rattle.live_auditor.proofs.Imports.{[], ap, arith, bytes_eq, bytes_eq-Decides, cond, cons_option}
use Rattle.live_auditor.proofs.Imports.{Contains, false, filter_map-append, filter_more, FindsNames, found_first}
use Rattle.live_auditor.proofs.Imports.{found_none, get_or, HasOnePlaceEach, is_none, length, List, member_at}
use Rattle.live_auditor.proofs.Imports.{None, Option, place_among, refl, slice_get, Some, take, take_more}
use Rattle.live_auditor.proofs.Imports.{ℕ, ◌++◌, ◌+◌, ◌-◌, ◌<◌, ◌∙◌, ◌∷◌, ◌≡◌, ◌≤◌}

-- where a digest stands is its place, if each has one
pub place_stands : (digests : List (List ℕ)) (p : ℕ) (d : List ℕ) → HasOnePlaceEach digests →
    slice_get digests p ≡ Some d → place_among digests d ≡ Some p
place_stands digests p d once stands =
    found_first (λ x. bytes_eq x d) digests 0 p d stands ((bytes_eq-Decides d d).1 refl)
    (λ j y there t. once j p d (rw ((bytes_eq-Decides y d).0 t) at there) stands)
    ∙ ap (λ (n : ℕ). Some n) (omega arith)

-- a digest that isn't contained has none
pub place_nowhere : (digests : List (List ℕ)) (d : List ℕ) → (Contains digests d → ⊥) → place_among digests d ≡ None
place_nowhere digests d none =
    found_none (λ x. bytes_eq x d) digests 0 (λ j y there t.
    none (rw ((bytes_eq-Decides y d).0 t) at (member_at digests j y there)))

-- what is found of the names so far, and of one more
pub finds_more : (digests names : List (List ℕ)) (i : ℕ) (d : List ℕ) (place : Option ℕ) (parents : List ℕ)
    (missing : List (List ℕ)) → i < length names → place_among digests (get_or names i d) ≡ place →
    FindsNames digests (take i names) parents missing →
    FindsNames digests (take (i + 1) names) (parents ++ cons_option place [])
    (missing ++ cond (is_none place) (get_or names i d ∷ []) [])
finds_more digests names i d place parents missing within is finds = record {
  places = rw (take_more names i d within, filter_map-append, is, finds.places);
  others = rw (filter_more (λ c. is_none (place_among digests c)) names i d within, is, finds.others);
}

-- a digest that is at no later place, and not at the one before, is at none from there on
pub looked_at : (digests : List (List ℕ)) (d : List ℕ) (place : ℕ) (item : List ℕ) →
    slice_get digests (place - 1) ≡ Some item → bytes_eq item d ≡ false →
    ((k : ℕ) → place ≤ k → k < length digests → slice_get digests k ≡ Some d → ⊥) →
    (k : ℕ) → place - 1 ≤ k → k < length digests → slice_get digests k ≡ Some d → ⊥
looked_at digests d place item stands other none k past low there =
    grind (arith, none k, (bytes_eq-Decides item d).1)
