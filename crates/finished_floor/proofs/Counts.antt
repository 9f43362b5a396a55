-- How many members a list has at most.
use Rattle.finished_floor.proofs.Imports.{new_from_may, Contains-cons_cases, Contains-head, Contains-later}
use Rattle.finished_floor.proofs.Imports.{Contains-map, Contains-map_cases, member_split, IsLegal, entry_of, held, Node}
use Rattle.finished_floor.proofs.Imports.{Event, Bool, List, Some, [], ap, arith, inl, inr, length, length-append, refl}
use Rattle.finished_floor.proofs.Imports.{suc, sym, ℕ, Contains-append_cases, Contains-append_left}
use Rattle.finished_floor.proofs.Imports.{Contains-append_right, Contains, filter, nat_lt, slice_get, cond, nat_tests}
use Rattle.finished_floor.proofs.Imports.{append_assoc, ◌++◌, ◌+◌, ◌-◌, ◌∙◌, ◌∷◌, ◌≡◌, ◌≤◌, ◌&&◌}

module _ {X : Type 0} where
  -- no member is among the later ones
  abbrev pub AreDifferent : List X → Type 0
  AreDifferent [] = Unit {0}
  AreDifferent (x ∷ xs) = (Contains xs x → ⊥) × AreDifferent xs

  -- different members of a list are at most as many as the list has
  pub different_few : (xs ys : List X) → AreDifferent xs → ((x : X) → Contains xs x → Contains ys x) →
      length xs ≤ length ys
  different_few [] ys differ all = omega arith
  different_few (x ∷ xs) ys differ all =
      let (front, back, parts) = member_split ys x (all x (Contains-head x xs)) in
      let fewer = different_few xs (front ++ back) differ.1 (λ y c.
      elim (Contains-append_cases front (x ∷ back) y (rw parts at all y (Contains-later x xs y c))) [
        | inl h ↦ Contains-append_left front back y h
        | inr h ↦ elim (Contains-cons_cases x back y h) [
          | inl same ↦ absurd (differ.0 (rw same c))
          | inr k ↦ Contains-append_right front back y k
        ]
      ]) in
      omega (arith, ap length parts, length-append front (x ∷ back), length-append front back)

  -- where numbers count up from k on, at most n - k of them are below n
  pub rising_few : (number : X → ℕ) (test : X → Bool) (n k : ℕ) (xs : List X) →
      ((i : ℕ) (x : X) → slice_get xs i ≡ Some x → number x ≡ k + i) →
      length (filter (λ x. nat_lt (number x) n && test x) xs) ≤ n - k
  rising_few number test n k [] each = omega arith
  rising_few number test n k (x ∷ xs) each =
      by (test x) _ (each 0 x refl) (rising_few number test n (k + 1) xs (λ i y is. let e = each (suc i) y is in omega arith))
    where
      -- the first is one of them at most
      by : (b : Bool) (ys : List X) → number x ≡ k + 0 → length ys ≤ n - (k + 1) → length (cond (nat_lt (number x) n && b) (x ∷ ys) ys) ≤ n - k
      by b ys is few = grind (arith, nat_tests)

module _ {T : Type 0} (node : T → Node) where
  -- what a machine holds is different from what it held before
  different_from : (owner : ℕ) (p q : List (Event T)) → IsLegal node owner (p ++ q) → AreDifferent (held q)
  different_from owner p [] legal = tt
  different_from owner p (x ∷ q) legal = (
    (λ c.
        let (event, there, same) = Contains-map_cases entry_of q (entry_of x) c in
        let (front, back, parts) = member_split q event there in
        let before : List (Event T) = p ++ x ∷ front in
        new_from_may node owner before event
        (legal before event back (ap (λ l. p ++ x ∷ l) parts ∙ sym (append_assoc p (x ∷ front) (event ∷ back)))) (entry_of x)
        (Contains-map entry_of before x (Contains-append_right p (x ∷ front) x (Contains-head x front)))
        (ap (λ (e : T). (node e).digest) (sym same))),
    different_from owner (p ++ x ∷ []) q (rw append_assoc legal),
  )

  -- the entries held by a legal history are all different
  pub held_different : (owner : ℕ) (h : List (Event T)) → IsLegal node owner h → AreDifferent (held h)
  held_different owner h legal = different_from owner [] h legal
