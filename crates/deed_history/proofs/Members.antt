-- Which members a list has.
use Rattle.deed_history.proofs.Deciding.{Decided}
use Rattle.std.proofs.Common.{[], arith, Bool, cond, false, inl, inr, List, refl, subst, sym, true, ℕ, ◌∷◌, ◌≡◌, ◌⊎◌}
use Rattle.std.proofs.lemmas.Bool.{eq-eqb, eqb-true}
use Rattle.std.proofs.lemmas.List.Elements.{Contains-append_cases, Contains-append_right, Contains-push_cases}
use Rattle.std.proofs.lemmas.List.Folds.{Any-from_list_any, list_any-from_Any}
use Rattle.std.specs.{List.list_any, Prelude.Contains, Prelude.filter, Prelude.IsTrue, Prelude.nat_eq, Prelude.◌↔◌}

-- a place where the member is
at_place : (xs : List ℕ) (x y : ℕ) → Contains xs y → y ≡ x → Contains xs x
at_place xs x y at same = subst (Contains xs) same at

-- the answer of a slice's `contains`
pub is_member : (xs : List ℕ) (x : ℕ) → IsTrue (list_any (λ y. nat_eq y x) xs) ↔ Contains xs x
is_member xs x = (
  λ found.
      let (i, y, within, at, same) = Any-from_list_any (λ y. nat_eq y x) xs found in
      at_place xs x y (i, within, at) (eqb-true y x same),
  λ (i, within, at). list_any-from_Any (λ y. nat_eq y x) xs (i, x, within, at, eq-eqb x x refl),
)

-- the first member is one of the list
first_in : {X : Type 0} (y : X) (xs : List X) → Contains (y ∷ xs) y
first_in y xs = (0, omega arith, refl)

-- a member is the first or one of the others
in_cons : {X : Type 0} (y : X) (xs : List X) (x : X) → Contains (y ∷ xs) x → (y ≡ x) ⊎ Contains xs x
in_cons y xs x at = elim (Contains-append_cases (y ∷ []) xs x at) [
  | inl first ↦ elim (Contains-push_cases [] y x first) [ inl none ↦ absurd (omega arith) | inr same ↦ inl same ]
  | inr later ↦ inr later
]

-- a filter keeps the members that pass
is_kept_by : {X : Type 0} (p : X → Bool) (y : X) (xs : List X) (x : X) (passes : Bool) → p y ≡ passes →
    Contains (filter p xs) x ↔ (Contains xs x × (p x ≡ true)) →
    Contains (cond passes (y ∷ filter p xs) (filter p xs)) x ↔ (Contains (y ∷ xs) x × (p x ≡ true))
is_kept_by p y xs x true is (kept, keeps) = (
  λ at. elim (in_cons y (filter p xs) x at) [
    | inl same ↦ (subst (Contains (y ∷ xs)) same (first_in y xs), cc)
    | inr later ↦ let (among, passes) = kept later in (Contains-append_right (y ∷ []) xs x among, passes)
  ],
  λ (at, passes). elim (in_cons y xs x at) [
    | inl same ↦ subst (Contains (y ∷ filter p xs)) same (first_in y (filter p xs))
    | inr later ↦ Contains-append_right (y ∷ []) (filter p xs) x (keeps (later, passes))
  ],
)
is_kept_by p y xs x false is (kept, keeps) = (
  λ at. let (among, passes) = kept at in (Contains-append_right (y ∷ []) xs x among, passes),
  λ (at, passes). elim (in_cons y xs x at) [ inl same ↦ absurd (cc passes) | inr later ↦ keeps (later, passes) ],
)

-- a member of the filtered list is one of the list that passes
pub is_kept : {X : Type 0} (p : X → Bool) (xs : List X) (x : X) →
    Contains (filter p xs) x ↔ (Contains xs x × (p x ≡ true))
is_kept p [] x = (λ at. absurd (omega arith), λ at. at.0)
is_kept p (y ∷ xs) x = is_kept_by p y xs x (p y) refl (is_kept p xs x)

-- a test of the members of a vector's slice decides what the vector contains
pub is_listed : (test : Bool) (lent xs : List ℕ) (x : ℕ) → test ≡ list_any (λ y. nat_eq y x) lent → lent ≡ xs →
    IsTrue test ↔ Contains xs x
is_listed test lent xs x answer same =
    let P : Bool → Type 0 = λ t. IsTrue t ↔ Contains xs x in
    let Q : List ℕ → Type 0 = λ l. IsTrue (list_any (λ y. nat_eq y x) l) ↔ Contains xs x in
    subst P (sym answer) (subst Q (sym same) (is_member xs x))

-- so it decides what the vector notes
abbrev pub listed_is : {A : Type 0} {test : Bool} {lent xs : List ℕ} {x : ℕ} → test ≡ list_any (λ y. nat_eq y x) lent →
    lent ≡ xs → Contains xs x ↔ A → Decided A
listed_is {A} {test} {lent} {xs} {x} answer same noted =
    let (to, from) = is_listed test lent xs x answer same in
    (test, (λ yes. noted.0 (to yes), λ a. from (noted.1 a)))
