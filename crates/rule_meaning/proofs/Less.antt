-- Less knowledge gives a rule the same value, or none.
use Rattle.rule_meaning.proofs.Imports.{[], ancestors, ap, arith, Bool, Contains, Contains-filter}
use Rattle.rule_meaning.proofs.Imports.{Contains-filter_cases, Contains-head, Contains-later, Contains-none, False, inl}
use Rattle.rule_meaning.proofs.Imports.{inr, is_true, IsLess, IsLessKnown, Kind, least, length, LessIsKnown, List, map}
use Rattle.rule_meaning.proofs.Imports.{places, refl, Row, Some, suc, sym, Three, True, true, Unknown, values_before}
use Rattle.rule_meaning.proofs.Imports.{zero, ℕ, ◌++◌, ◌<◌, ◌∙◌, ◌∷◌, ◌≡◌, ◌≢◌}
use Rattle.rule_meaning.proofs.Kleenes.{lacking, least_false, least_true}
use Rattle.rule_meaning.proofs.{SameOrders.IsKept, SameOrders.rule_kept, Sounds.true_is, Visits.both_false}

-- a value that is known of less is known of more
up : (x y v : Three) → IsLessKnown x y → v ≢ Unknown → x ≡ v → y ≡ v
up x y v (inl u) known is = absurd (known (sym is ∙ u))
up x y v (inr e) known is = sym e ∙ is

-- and what is true of more is true of less, where that isn't unknown
down : (x y : Three) → IsLessKnown x y → x ≢ Unknown → y ≡ True → x ≡ True
down x y (inl u) known is = absurd (known u)
down x y (inr e) known is = e ∙ is

-- a value that is up to what it is known to be is less known
less_from : (x y : Three) → (x ≡ True → y ≡ True) → (x ≡ False → y ≡ False) → IsLessKnown x y
less_from True y held lost = inr (sym (held refl))
less_from False y held lost = inr (sym (lost refl))
less_from Unknown y held lost = inl refl

-- the connectives keep what is less known
less_kept : IsKept IsLessKnown
less_kept = record {
  of_true = inr refl;
  of_false = inr refl;
  of_opposite = λ x x' a. grind arith;
  of_both = λ x y x' y' a b. grind arith;
  of_either = λ x y x' y' a b. grind arith;
}

-- where each of the values is true and nothing is lacking the least is true
least_all : (f : ℕ → Three) (is : List ℕ) (whole : Bool) → whole ≡ true → ((i : ℕ) → Contains is i → f i ≡ True) →
    least (map f is ++ lacking whole) ≡ True
least_all f [] whole full each = rw full refl
least_all f (j ∷ is) whole full each =
    rw (each j (Contains-head j is)) (least_all f is whole full (λ i c. each i (Contains-later j is i c)))

-- where one is false it is false
least_has : (f : ℕ → Three) (is : List ℕ) (whole : Bool) (i : ℕ) → Contains is i → f i ≡ False →
    least (map f is ++ lacking whole) ≡ False
least_has f [] whole i c lost = absurd (Contains-none i c)
least_has f (j ∷ is) whole i (zero, l, same) lost = rw (same, lost) refl
least_has f (j ∷ is) whole i (suc k, l, at) lost =
    rw (least_has f is whole i (k, omega arith, at) lost) (both_false (f j))

module _ (rows : List Row) (order : ℕ → ℕ → Three) (wholes : ℕ → Bool) (order' : ℕ → ℕ → Three)
    (wholes' : ℕ → Bool) (less : IsLess (length rows) order wholes order' wholes') where
  -- of the rows of a kind fewer are known to come before a row, and where it is whole all are; so the least of what
  -- is less known over them is less known
  less_before : (kind : Kind) (u : ℕ) (f g : ℕ → Three) → u < length rows →
      ((i : ℕ) → Contains (places rows order wholes kind) i → IsLessKnown (f i) (g i)) →
      IsLessKnown (least (values_before rows order wholes kind (Some u) f))
      (least (values_before rows order' wholes' kind (Some u) g))
  less_before kind u f g is each =
      let those = places rows order wholes kind in
      let few = ancestors rows order wholes kind u in
      let many = ancestors rows order' wholes' kind u in
      less_from (least (map f few ++ lacking (wholes u))) (least (map g many ++ lacking (wholes' u)))
      (λ held.
      let (whole, held_at) = least_true f few (wholes u) held in
      least_all g many (wholes' u) (less.whole u is whole) (λ i c.
      let (placed, near) = Contains-filter_cases (λ j. is_true (order' j u)) those i c in
      let before = down _ _ (less.orders i u is) (less.settled i u is whole) (true_is (order' i u) near) in
      up (f i) (g i) True (each i placed) (λ e. cc) (held_at i
      (Contains-filter (λ j. is_true (order j u)) those i placed (ap is_true before)))))
      (λ lost.
      let (i, c, lost_at) = least_false f few (wholes u) lost in
      let (placed, near) = Contains-filter_cases (λ j. is_true (order j u)) those i c in
      let before = up _ _ True (less.orders i u is) (λ e. cc) (true_is (order i u) near) in
      least_has g many (wholes' u) i (Contains-filter (λ j. is_true (order' j u)) those i placed (ap is_true before))
      (up (f i) (g i) False (each i placed) (λ e. cc) lost_at))

-- the law
pub less_is_known : LessIsKnown
less_is_known rows order wholes order' wholes' less rule =
    rule_kept IsLessKnown less_kept rows order order' wholes wholes' less.orders
    (less_before rows order wholes order' wholes' less) rule
