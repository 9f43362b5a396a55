-- Filters of lists, and lists with one member or none.
use Rattle.finished_floor.proofs.Imports.{Contains-head, Contains-later, Bool, List, [], arith, false, refl, true}
use Rattle.finished_floor.proofs.Imports.{Contains, filter, cond, ◌∷◌, ◌≡◌, ◌&&◌}

module _ {X : Type 0} where
  -- two tests that agree on the members keep the same
  pub filter_same : (p q : X → Bool) (xs : List X) → ((x : X) → Contains xs x → p x ≡ q x) → filter p xs ≡ filter q xs
  filter_same p q [] same = refl
  filter_same p q (x ∷ xs) same =
      rw (same x (Contains-head x xs), filter_same p q xs (λ y c. same y (Contains-later x xs y c)))

  -- one test after another is both
  pub filter_twice : (p q : X → Bool) (xs : List X) → filter q (filter p xs) ≡ filter (λ x. p x && q x) xs
  filter_twice p q [] = refl
  filter_twice p q (x ∷ xs) =
      elim (p x) as (λ b. filter q (cond b (x ∷ filter p xs) (filter p xs))
      ≡ cond (b && q x) (x ∷ filter (λ x. p x && q x) xs) (filter (λ x. p x && q x) xs)) [
        | true ↦ rw (filter_twice p q xs)
        | false ↦ filter_twice p q xs
      ]

-- one item, or none
abbrev pub only_if : {X : Type 0} → Bool → X → List X
only_if b x = cond b (x ∷ []) []

-- its member
pub only_if_is : {X : Type 0} (b : Bool) (e x : X) → Contains (only_if b e) x → (b ≡ true) × (e ≡ x)
only_if_is b e x c = grind arith
