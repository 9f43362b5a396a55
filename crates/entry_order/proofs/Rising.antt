-- Lists in which each member is below all later ones.
use Rattle.entry_order.proofs.Imports.Words
use Words.{Bool, Contains, List, [], cond, false, filter, inl, inr, refl, subst, sym, true, ◌∙◌, ◌∷◌, ◌≡◌}
use Rattle.entry_order.proofs.Lists.{Contains-cons_cases, Contains-filter_cases, Contains-head, Contains-later}
use Rattle.entry_order.proofs.Lists.{Contains-none}

module _ {X : Type 0} (Below : X → X → Type 0) where
  -- each is below all after it
  abbrev pub Rises : List X → Type 0
  Rises [] = Unit {0}
  Rises (x ∷ xs) = ((y : X) → Contains xs y → Below x y) × Rises xs

  -- a part of such a list is such a list
  pub rises_filter : (p : X → Bool) (xs : List X) → Rises xs → Rises (filter p xs)
  rises_filter p [] a = tt
  rises_filter p (x ∷ xs) (x_below, xs_rise) =
      elim (p x) as (λ b. Rises (cond b (x ∷ filter p xs) (filter p xs))) [
        | true ↦ (λ y h. x_below y (Contains-filter_cases p xs y h).0, rises_filter p xs xs_rise)
        | false ↦ rises_filter p xs xs_rise
      ]

  module _ (not_both : (x y : X) → Below x y → Below y x → ⊥) where
    -- what is after the first of one list is after the same first of another that has all its members
    below_first : (x y : X) (xs ys : List X) → x ≡ y → ((d : X) → Contains xs d → Below x d) →
        ((d : X) → Contains (x ∷ xs) d → Contains (y ∷ ys) d) → (d : X) → Contains xs d → Contains ys d
    below_first x y xs ys heads x_below to d c =
        elim (Contains-cons_cases y ys d (to d (Contains-later x xs d c))) [
          | inl e ↦ absurd (let m : Below x x = subst (Below x) (sym (heads ∙ e)) (x_below d c) in not_both x x m m)
          | inr u ↦ u
        ]

    -- two lists that rise and have the same members are equal
    pub same_rising : (xs ys : List X) → Rises xs → Rises ys → ((d : X) → Contains xs d → Contains ys d) →
        ((d : X) → Contains ys d → Contains xs d) → xs ≡ ys
    same_rising [] [] a b to from = refl
    same_rising [] (y ∷ ys) a b to from = absurd (Contains-none y (from y (Contains-head y ys)))
    same_rising (x ∷ xs) [] a b to from = absurd (Contains-none x (to x (Contains-head x xs)))
    same_rising (x ∷ xs) (y ∷ ys) (x_below, xs_rise) (y_below, ys_rise) to from =
        let heads : x ≡ y =
        elim (Contains-cons_cases y ys x (to x (Contains-head x xs))) [
          | inl e ↦ sym e
          | inr u ↦ elim (Contains-cons_cases x xs y (from y (Contains-head y ys)))
              [ inl e ↦ e | inr v ↦ absurd (not_both x y (x_below y v) (y_below x u)) ]
        ] in
        let tails = same_rising xs ys xs_rise ys_rise (below_first x y xs ys heads x_below to)
        (below_first y x ys xs (sym heads) y_below from) in
        λ i. heads i ∷ tails i
