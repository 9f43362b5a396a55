-- Values over some rows in place of all.
use Rattle.rule_meaning.proofs.Imports
use Imports.{AllWithin, AllWithin-more, ap, arith, as_three, bind, Bool, both, cases_eq, cond, Contains}
use Imports.{Contains-filter, Contains-filter_cases, Contains-get_or, element_at, False, false, filter, Formula, get_or}
use Imports.{get_or-range_with_len, get_or_default, has_kind, if_meant, inl, inr, is_false, is_in, is_kind}
use Imports.{IsVisitedFor, Kind, least, length, length-range_with_len, List, map, not, opposite, Option, over_from}
use Imports.{over_rows, places, Quantifier, range_with_len, refl, Row, signed, slice_get, slice_get_within, Some, subst}
use Imports.{suc, sym, Three, True, true, value_of, zero, ◌&&◌, ◌+◌, ◌-◌, ◌<◌, ◌∙◌, ◌∷◌, ◌≡◌, ◌≤◌, ◌⊎◌, ℕ}
use Rattle.rule_meaning.proofs.Judges.{both_true, both_assoc}
use Rattle.rule_meaning.proofs.SameOrders.{row_of_kind}

-- the least of a value and false is false
pub both_false : (x : Three) → both x False ≡ False
both_false x = grind arith

-- a value that is found false is false
false_is : (x : Three) → is_false x ≡ true → x ≡ False
false_is x is = grind arith

-- the value that leaves a quantifier's as it is
signed_true : (some : Bool) (x : Three) → x ≡ as_three (not some) → signed some x ≡ True
signed_true true x is = ap opposite is
signed_true false x is = is

-- the least of two values in either order
both_comm : (x y : Three) → both x y ≡ both y x
both_comm x y = grind arith

-- what changes nothing changes nothing after another value
both_kept : (x y z : Three) → both x z ≡ x → both (both x y) z ≡ both x y
both_kept x y z is = grind arith

-- a value changes nothing the second time
both_twice : (x y : Three) → both (both x y) y ≡ both x y
both_twice x y = grind arith

-- values at rows, one by one
module _ (rows : List Row) (order : ℕ → ℕ → Three) (wholes : ℕ → Bool) (some : Bool) (body : Formula) (v : ℕ)
    (kind : Kind) (within : Option ℕ) (env : ℕ → Option ℕ) where
  -- the value that a row adds: the body's where the row is meant, and else true
  abbrev pub at : ℕ → Three
  at = if_meant rows order wholes some body v kind within env

  -- the value of the body at a row
  abbrev value : ℕ → Three
  value j = value_of rows order wholes body (bind v j env)

  -- whether the quantifier means the row
  abbrev is_one : ℕ → Bool
  is_one j = has_kind kind (slice_get rows j) && is_in order within j

  -- the least from a row on
  abbrev pub rest : ℕ → Three
  rest i = over_from rows order wholes some body v kind within env i (length rows - i)

  -- a row at which the body's value changes nothing adds nothing
  pub settled_at : (j : ℕ) → value j ≡ as_three (not some) → at j ≡ True
  settled_at j is = by (is_one j)
    where
      -- by cases: whether the row is meant
      by : (b : Bool) → cond b (signed some (value j)) True ≡ True
      by true = signed_true some (value j) is
      by false = refl

  -- a row of another kind adds nothing
  pub other_at : (j : ℕ) (row : Row) → slice_get rows j ≡ Some row → is_kind kind row.kind ≡ false → at j ≡ True
  other_at j row is other =
      ap (λ (b : Bool). cond (b && is_in order within j) (signed some (value j)) True) (ap (has_kind kind) is ∙ other)

  -- the least from a row on is the least of what it adds and of the rest after it
  rest_more : (i : ℕ) → i < length rows → rest i ≡ both (at i) (rest (i + 1))
  rest_more i inside =
      let more : length rows - i ≡ suc (length rows - (i + 1)) = omega arith in
      ap (over_from rows order wholes some body v kind within env i) more ∙ by (is_one i)
    where
      -- the value that a quantifier takes of the body at a row
      signed_at : ℕ → Three
      signed_at j = signed some (value j)

      -- the rows after it
      later : List ℕ
      later = filter is_one (range_with_len (i + 1) (length rows - (i + 1)))

      -- by cases: whether the row is meant
      by : (b : Bool) →
          least (map signed_at (cond b (i ∷ later) later))
          ≡ both (cond b (signed_at i) True) (least (map signed_at later))
      by true = refl
      by false = refl

  -- after the last row nothing is left
  pub no_rest : (i : ℕ) → length rows ≤ i → rest i ≡ True
  no_rest i over =
      let none : length rows - i ≡ 0 = omega (arith, over) in
      ap (over_from rows order wholes some body v kind within env i) none

  -- one row more, by the values as they were places
  pub step_with : (i : ℕ) (acc x new total : Three) → i < length rows → x ≡ at i → new ≡ both acc x →
      total ≡ both acc (rest i) → total ≡ both new (rest (i + 1))
  step_with i acc x new total inside value_is new_is so_far =
      so_far ∙ ap (both acc) (rest_more i inside) ∙ both_assoc acc (at i) (rest (i + 1))
      ∙ ap (λ (y : Three). both y (rest (i + 1))) (ap (both acc) (sym value_is) ∙ sym new_is)

  -- once the least is false it stays so, whatever the rest is
  pub stop_with : (i : ℕ) (acc x new total : Three) → i < length rows → x ≡ at i → new ≡ both acc x →
      total ≡ both acc (rest i) → is_false new ≡ true → False ≡ total
  stop_with i acc x new total inside value_is new_is so_far lost =
      sym (step_with i acc x new total inside value_is new_is so_far
      ∙ ap (λ (y : Three). both y (rest (i + 1))) (false_is new lost))

  -- the least of the rows from a place on isn't above any of them
  below_each : (d i j : ℕ) → i + d ≡ length rows → i ≤ j → j < length rows → both (rest i) (at j) ≡ rest i
  below_each zero i j all low high = absurd (omega (arith, all, low, high))
  below_each (suc d) i j all low high =
      let step : rest i ≡ both (rest (i + 1)) (at i) =
      rest_more i (omega (arith, all)) ∙ both_comm (at i) (rest (i + 1)) in
      let kept : both (both (rest (i + 1)) (at i)) (at j) ≡ both (rest (i + 1)) (at i) = elim (cases_eq j i) [
        | inl same ↦ ap (both (both (rest (i + 1)) (at i))) (ap at same) ∙ both_twice (rest (i + 1)) (at i)
        | inr apart ↦
            both_kept (rest (i + 1)) (at i) (at j)
            (below_each d (i + 1) j (omega (arith, all)) (omega (arith, low, apart)) high)
      ] in
      ap (λ (x : Three). both x (at j)) step ∙ kept ∙ sym step

  -- a value that isn't above any of the rows' values isn't above their least
  above_all : (x : Three) (d i : ℕ) → i + d ≡ length rows →
      ((j : ℕ) → j < length rows → both x (at j) ≡ x) → both x (rest i) ≡ x
  above_all x zero i all each = ap (both x) (no_rest i (omega (arith, all))) ∙ both_true x
  above_all x (suc d) i all each =
      ap (both x) (rest_more i (omega (arith, all))) ∙ both_assoc x (at i) (rest (i + 1))
      ∙ ap (λ (y : Three). both y (rest (i + 1))) (each i (omega (arith, all)))
      ∙ above_all x d (i + 1) (omega (arith, all)) each

-- a quantifier over the places that it has to visit
module _ (rows : List Row) (order : ℕ → ℕ → Three) (wholes : ℕ → Bool) (q : Quantifier) (body : Formula)
    (env : ℕ → Option ℕ) where
  -- the value that a row adds
  abbrev adds : ℕ → Three
  adds = at rows order wholes q.some body q.v q.kind q.within env

  -- the quantifier's value
  abbrev total : Three
  total = rest rows order wholes q.some body q.v q.kind q.within env 0

  -- the one that is defined
  total_is : total ≡ over_rows rows order wholes q.some body q.v q.kind q.within env
  total_is =
      let all : length rows - 0 ≡ length rows = omega arith in
      ap (over_from rows order wholes q.some body q.v q.kind q.within env 0) all

  -- the least so far isn't below the total, and isn't above what any of the first `n` visited rows
  -- adds
  abbrev pub IsLeastSoFar : List ℕ → ℕ → Three → Type 0
  IsLeastSoFar places n least =
      (both total least ≡ total) × AllWithin (λ j. both least (adds j) ≡ least) places 0 n

  -- a visited place is that of a row
  pub visited_within : (places : List ℕ) (i d : ℕ) → IsVisitedFor rows order wholes q body env places →
      i < length places → get_or places i d < length rows
  visited_within places i d visited within =
      row_of_kind rows q.kind (get_or places i d) (visited.kind (get_or places i d) (Contains-get_or places i d within))

  -- one visited row more
  pub visit_one : (places : List ℕ) (i d : ℕ) (least x new : Three) →
      IsVisitedFor rows order wholes q body env places → i < length places → x ≡ adds (get_or places i d) →
      new ≡ both least x → IsLeastSoFar places i least → IsLeastSoFar places (i + 1) new
  visit_one places i d least x new visited within value_is new_is (above, below) =
      let y : Three = adds (get_or places i d) in
      subst (IsLeastSoFar places (i + 1)) (sym (new_is ∙ ap (both least) value_is)) (
        both_assoc total least y ∙ ap (λ (z : Three). both z y) above
            ∙ below_each rows order wholes q.some body q.v q.kind q.within env (length rows) 0 (get_or places i d)
            (omega arith) (omega arith) (visited_within places i d visited within),
        AllWithin-more (λ j. both (both least y) (adds j) ≡ both least y) places 0 i
            (λ k e low high. both_kept least y (adds (get_or places k e)) (below k e low high))
            (λ e. ap (both (both least y)) (ap adds (get_or_default places i e d within)) ∙ both_twice least y),
      )

  -- once the least is false so is the total
  pub visit_stops : (places : List ℕ) (i d : ℕ) (least x new : Three) →
      IsVisitedFor rows order wholes q body env places → i < length places → x ≡ adds (get_or places i d) →
      new ≡ both least x → IsLeastSoFar places i least → is_false new ≡ true →
      False ≡ over_rows rows order wholes q.some body q.v q.kind q.within env
  visit_stops places i d least x new visited within value_is new_is so_far lost =
      sym (both_false total) ∙ ap (both total) (sym (false_is new lost))
      ∙ (visit_one places i d least x new visited within value_is new_is so_far).0 ∙ total_is

  -- after the last of the visited rows the least is the total
  pub visit_ends : (places : List ℕ) (n : ℕ) (least : Three) → length places ≤ n →
      IsVisitedFor rows order wholes q body env places → IsLeastSoFar places n least →
      least ≡ over_rows rows order wholes q.some body q.v q.kind q.within env
  visit_ends places n least all visited (above, below) =
      sym (above_all rows order wholes q.some body q.v q.kind q.within env least (length rows) 0 (omega arith)
      changes_nothing)
      ∙ both_comm least total ∙ above ∙ total_is
    where
      -- no row is below the least
      changes_nothing : (j : ℕ) → j < length rows → both least (adds j) ≡ least
      changes_nothing j high =
          let (row, there) = element_at rows j high in
          elim (visited.others j row there) [
            | inl (k, inside, is) ↦
                ap (both least) (ap adds (sym is)) ∙ below k j (omega arith) (omega (arith, inside, all))
            | inr settles ↦ ap (both least) settles ∙ both_true least
          ]

-- a range has each place of its own
pub range_has : (a n i : ℕ) → a ≤ i → i < a + n → Contains (range_with_len a n) i
range_has a n i low high =
    let inside : i - a < n = omega (arith, low, high) in
    let again : a + (i - a) ≡ i = omega (arith, low) in (
      i - a,
      omega (arith, length-range_with_len a n),
      get_or-range_with_len a n (i - a) i inside ∙ again,
    )

-- all places of the quantifier's kind are those to visit
pub all_visited : (rows : List Row) (order : ℕ → ℕ → Three) (wholes : ℕ → Bool) (q : Quantifier) (body : Formula)
    (env : ℕ → Option ℕ) → IsVisitedFor rows order wholes q body env (places rows order wholes q.kind)
all_visited rows order wholes q body env =
    record {
      kind = λ j there. (Contains-filter_cases is_one range j there).1;
      others = λ j row at. by j row at (is_one j) refl;
    }
  where
    -- whether the row is of the kind
    is_one : ℕ → Bool
    is_one j = has_kind q.kind (slice_get rows j)

    -- all places
    range : List ℕ
    range = range_with_len 0 (length rows)

    -- by cases: whether it is
    by : (j : ℕ) (row : Row) → slice_get rows j ≡ Some row → (b : Bool) → is_one j ≡ b →
        Contains (filter is_one range) j
        ⊎ (if_meant rows order wholes q.some body q.v q.kind q.within env j ≡ True)
    by j row there true is =
        let within = slice_get_within rows j row there in
        inl (Contains-filter is_one range j (range_has 0 (length rows) j (omega arith) (omega arith)) is)
    by j row there false is =
        inr (ap (λ (b : Bool). cond (b && is_in order q.within j)
        (signed q.some (value_of rows order wholes body (bind q.v j env))) True) is)
