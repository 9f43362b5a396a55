-- The value of a rule where rows come after those that it was judged by: later rows, over which no
-- quantifier of the rule goes that goes over all rows, and which come before none of the others,
-- leave it as it was.
use Rattle.rule_engine.proofs.Imports
use Imports.{[], ancestors, and-true, ap, append-nil, arith, as_three, bind, Bool, both, both_assoc, Box, cases_lt}
use Imports.{ComesBeforeNone, cond, Contains, Contains-cons_cases, Contains-filter, Contains-filter_cases}
use Imports.{Contains-head, Contains-later, Contains-none, drop, either, eq-eqb, eqb-true, False, false}
use Imports.{false_from_ne_true, filter, filter-append, first_value, ForEvery, Form, Formula, fun_ext, get_or}
use Imports.{get_or-drop, get_or_from_slice_get, Global, greatest, has_kind, IfSome, inl, inr, is_of, is_true, Kind}
use Imports.{kind_of_all, least, length, length-drop, length-take-le, List, list_any, list_any_of, map, map-append}
use Imports.{no_trees, None, opposite, Option, or_parts, over_from, over_rows, passes, places, range_has}
use Imports.{range_with_len, reaches_row, refl, rest_of, Row, row_at, second_value, slice_get, slice_get_within, Some}
use Imports.{sym, take, take_rest, Three, tree_of, tree_then, Trees, True, true, true≢false, unbound, Unknown, value}
use Imports.{value-ForEvery, value_of, values, values_before, ℕ, ◌&&◌, ◌++◌, ◌+◌, ◌-◌, ◌<◌, ◌==◌, ◌||◌, ◌∙◌, ◌∷◌, ◌≡◌}
use Imports.{◌≤◌}
use Rattle.rule_engine.proofs.Lists.{slice_get-take, range_append, range_bounds, map_same, filter_same, filter_none}
use Rattle.rule_language.specs.declared.form.Form.TheVariants as form

-- the least of two lists is the least of both leasts
least_append : (xs ys : List Three) → least (xs ++ ys) ≡ both (least xs) (least ys)
least_append [] ys = refl
least_append (x ∷ xs) ys = ap (both x) (least_append xs ys) ∙ both_assoc x (least xs) (least ys)

-- where the least of two values is true, both are
both_parts : (x y : Three) → both x y ≡ True → (x ≡ True) × (y ≡ True)
both_parts True y is = (refl, is)
both_parts False y is = cc
both_parts Unknown False is = cc
both_parts Unknown y is = cc

-- where the least of values is true, each of them is
least_each : (f : ℕ → Three) (xs : List ℕ) → least (map f xs) ≡ True → (i : ℕ) → Contains xs i → f i ≡ True
least_each f [] all i has = absurd (Contains-none i has)
least_each f (x ∷ xs) all i has =
    let (first, others) = both_parts (f x) (least (map f xs)) all in
    elim (Contains-cons_cases x xs i has)
    [ inl same ↦ ap f (sym same) ∙ first | inr later ↦ least_each f xs others i later ]

-- and the other way round
each_least : (f : ℕ → Three) (xs : List ℕ) → ((i : ℕ) → Contains xs i → f i ≡ True) → least (map f xs) ≡ True
each_least f [] each = refl
each_least f (x ∷ xs) each =
    rw (each x (Contains-head x xs)) (each_least f xs (λ i c. each i (Contains-later x xs i c)))

module _ (rows : List Row) (order : ℕ → ℕ → Three) (wholes : ℕ → Bool) (body : Formula) (v : ℕ) (kind : Kind)
    (env : ℕ → Option ℕ) where
  -- the value of the body at a row
  abbrev value_at : ℕ → Three
  value_at j = value_of rows order wholes body (bind v j env)

  -- whether a row is meant
  abbrev is_meant : ℕ → Bool
  is_meant j = has_kind kind (slice_get rows j) && true

  -- where an `every` is true, its body is true at each row of the kind
  every_at : (i n : ℕ) → over_from rows order wholes false body v kind None env i n ≡ True → (j : ℕ) → i ≤ j →
      j < i + n → has_kind kind (slice_get rows j) ≡ true → value_at j ≡ True
  every_at i n all j low high is =
      least_each value_at (filter is_meant (range_with_len i n)) all j
      (Contains-filter is_meant (range_with_len i n) j (range_has i n j low high)
      (and-true (has_kind kind (slice_get rows j)) ∙ is))

  -- and the other way round
  every_from : ((j : ℕ) → j < length rows → has_kind kind (slice_get rows j) ≡ true → value_at j ≡ True) →
      over_rows rows order wholes false body v kind None env ≡ True
  every_from each =
      each_least value_at (filter is_meant (range_with_len 0 (length rows))) (λ j has.
      let (there, is) = Contains-filter_cases is_meant (range_with_len 0 (length rows)) j has in
      each j (omega (arith, range_bounds 0 (length rows) j there))
      (sym (and-true (has_kind kind (slice_get rows j))) ∙ is))

-- the test fails at each row from this place on
abbrev pub FailsFrom : List Row → ℕ → (Row → Bool) → Type 0
FailsFrom all count test = (j : ℕ) (row : Row) → count ≤ j → slice_get all j ≡ Some row → test row ≡ false

-- where one or the other of two tests fails so, both do
both_fail : (all : List Row) (count : ℕ) (p q : Row → Bool) → FailsFrom all count (λ row. p row || q row) →
    FailsFrom all count p × FailsFrom all count q
both_fail all count p q fail = (
  λ j row past is. (or_parts (p row) (q row) (fail j row past is)).0,
  λ j row past is. (or_parts (p row) (q row) (fail j row past is)).1,
)

-- no quantifier over all rows goes over one from this place on, where none is found among those
pub none_later : (formula : Formula) (all : List Row) (count : ℕ) (found : Bool) →
    found ≡ list_any (λ row. reaches_row row (tree_of formula)) (take (length all - count) (drop count all)) →
    found ≡ false → FailsFrom all count (λ row. reaches_row row (tree_of formula))
none_later formula all count found is none j row past stands =
    let test = λ (r : Row). reaches_row r (tree_of formula) in
    let again : count + (j - count) ≡ j = omega (arith, past) in
    let has : Contains (drop count all) row = (
      j - count,
      omega (arith, past, slice_get_within all j row stands, length-drop count all),
      get_or-drop count all (j - count) row ∙ ap (λ (k : ℕ). get_or all k row) again
          ∙ get_or_from_slice_get all j row row stands,
    ) in
    false_from_ne_true (test row) (λ reached. true≢false (sym (list_any_of test (drop count all) row has reached)
    ∙ sym (ap (list_any test) (take_rest all count)) ∙ sym is ∙ none))

-- two variables may be bound in either order
turned : (v u i j : ℕ) (env : ℕ → Option ℕ) → (v == u) ≡ false → bind u j (bind v i env) ≡ bind v i (bind u j env)
turned v u i j env apart = fun_ext (λ (w : ℕ). by w (w == u) (w == v) refl refl)
  where
    -- by whether it is one of them
    by : (w : ℕ) (a b : Bool) → (w == u) ≡ a → (w == v) ≡ b →
        cond a (Some j) (cond b (Some i) (env w)) ≡ cond b (Some i) (cond a (Some j) (env w))
    by w true true here also =
        absurd (true≢false (sym (eq-eqb v u (sym (eqb-true w v also) ∙ eqb-true w u here)) ∙ apart))
    by w true false here also = refl
    by w false b here also = refl

module _ (all : List Row) (count : ℕ) (fits : count ≤ length all) (order : ℕ → ℕ → Three) (wholes : ℕ → Bool)
    (last : ComesBeforeNone count order) where
  -- the first rows
  abbrev rows : List Row
  rows = take count all

  -- the places of the later ones
  abbrev later : List ℕ
  later = range_with_len count (length all - count)

  -- the first rows are as many as were counted
  counted : length rows ≡ count
  counted = length-take-le count all fits

  -- no quantifier over all rows goes over a later one
  abbrev IsApart : Trees → Type 0
  IsApart trees = FailsFrom all count (λ row. reaches_row row trees)

  -- all variables stand for first rows
  abbrev pub AreFirst : (ℕ → Option ℕ) → Type 0
  AreFirst env = (v : ℕ) → IfSome (env v) (λ i. i < count)

  -- a variable more that stands for such a row leaves all standing for them
  one_more : (v i : ℕ) (env : ℕ → Option ℕ) → i < count → AreFirst env → AreFirst (bind v i env)
  one_more v i env is are u = by (u == v)
    where
      -- by cases: whether it is the variable that was bound
      by : (b : Bool) → IfSome (cond b (Some i) (env u)) (λ j. j < count)
      by true = is
      by false = are u

  -- the parts of a formula have the same values whatever first rows the variables stand for
  abbrev PartsSame : ((ℕ → Option ℕ) → List Three) → ((ℕ → Option ℕ) → List Three) → Type 0
  PartsSame ts us = (env : ℕ → Option ℕ) → AreFirst env → ts env ≡ us env

  -- the row that a variable stands for is the same
  same_row : (o : Option ℕ) → IfSome o (λ i. i < count) → row_at rows o ≡ row_at all o
  same_row None is = refl
  same_row (Some i) is = slice_get-take all count i is

  -- the rows that pass a test are the first ones that do and the later ones
  filter_more : (test : Option Row → Bool) → filter (λ i. test (slice_get all i)) (range_with_len 0 (length all))
      ≡ filter (λ i. test (slice_get rows i)) (range_with_len 0 (length rows))
      ++ filter (λ i. test (slice_get all i)) later
  filter_more test =
      let p : ℕ → Bool = λ i. test (slice_get all i) in
      let numbers : List ℕ = range_with_len 0 (length rows) in
      ap (filter p) (range_append 0 (length rows) (length all - count) count (length all) (omega (arith, counted))
      (omega (arith, counted, fits)))
      ∙ filter-append p numbers later
      ∙ ap (λ (xs : List ℕ). xs ++ filter p later) (filter_same p (λ i. test (slice_get rows i)) numbers (λ i c.
      ap test (sym (slice_get-take all count i (omega (arith, counted, range_bounds 0 (length rows) i c))))))

  -- where none of the later rows is of a kind, none at their places is
  none_at : (kind : Kind) → FailsFrom all count (λ row. has_kind kind (Some row)) → (i : ℕ) → Contains later i →
      has_kind kind (slice_get all i) ≡ false
  none_at kind other i has = by (slice_get all i) refl
    where
      -- whatever row it is
      by : (o : Option Row) → slice_get all i ≡ o → has_kind kind o ≡ false
      by None is = refl
      by (Some row) is = other i row (range_bounds count (length all - count) i has).0 is

  -- and the places of the kind are the same
  same_places : (kind : Kind) → FailsFrom all count (λ row. has_kind kind (Some row)) →
      places rows order wholes kind ≡ places all order wholes kind
  same_places kind other =
      sym (filter_more (has_kind kind)
      ∙ ap (λ (xs : List ℕ). places rows order wholes kind ++ xs)
      (filter_none (λ i. has_kind kind (slice_get all i)) later (none_at kind other))
      ∙ append-nil (places rows order wholes kind))

  -- the same rows of any kind come before a first row
  same_ancestors : (kind : Kind) (u : ℕ) → u < count →
      ancestors rows order wholes kind u ≡ ancestors all order wholes kind u
  same_ancestors kind u is =
      let p : ℕ → Bool = λ i. has_kind kind (slice_get all i) in
      let t : ℕ → Bool = λ i. is_true (order i u) in
      sym (ap (filter t) (filter_more (has_kind kind))
      ∙ filter-append t (places rows order wholes kind) (filter p later)
      ∙ ap (λ (xs : List ℕ). ancestors rows order wholes kind u ++ xs) (filter_none t (filter p later) (λ i has.
      last i u is (range_bounds count (length all - count) i (Contains-filter_cases p later i has).0).0))
      ∙ append-nil (ancestors rows order wholes kind u))

  module _ (v : ℕ) (kind : Kind) (env : ℕ → Option ℕ) (are : AreFirst env)
      (ts us : (ℕ → Option ℕ) → List Three) (same : PartsSame ts us) where
    -- the value of a quantifier's body at a row
    abbrev at : ((ℕ → Option ℕ) → List Three) → ℕ → Three
    at xs i = first_value (xs (bind v i env))

    -- at each row of the kind the body has the same value
    same_at : (i : ℕ) → Contains (places rows order wholes kind) i → at ts i ≡ at us i
    same_at i c =
        let (there, _) = Contains-filter_cases (λ j. has_kind kind (slice_get rows j))
        (range_with_len 0 (length rows)) i c in
        ap first_value (same (bind v i env) (one_more v i env
        (omega (arith, counted, range_bounds 0 (length rows) i there)) are))

    -- so the values over all rows of the kind are the same
    same_all : FailsFrom all count (λ row. has_kind kind (Some row)) →
        map (at ts) (places rows order wholes kind) ≡ map (at us) (places all order wholes kind)
    same_all other =
        map_same (at ts) (at us) (places rows order wholes kind) same_at ∙ ap (map (at us)) (same_places kind other)

    -- and so are those over what comes before a variable's row
    same_before : (u : Option ℕ) → IfSome u (λ i. i < count) →
        values_before rows order wholes kind u (at ts) ≡ values_before all order wholes kind u (at us)
    same_before None is = refl
    same_before (Some u) is =
        ap (λ (xs : List Three). xs ++ rest_of rows order wholes u)
        (map_same (at ts) (at us) (ancestors rows order wholes kind u) (λ i c. same_at i
        (Contains-filter_cases (λ j. is_true (order j u)) (places rows order wholes kind) i c).0)
        ∙ ap (map (at us)) (same_ancestors kind u is))

  -- a form has the same value where its parts have
  same_value : (form : Form) (ts us : (ℕ → Option ℕ) → List Three) → PartsSame ts us → (env : ℕ → Option ℕ) →
      AreFirst env → FailsFrom all count (λ row. is_of row (kind_of_all form)) →
      value rows order wholes form env ts ≡ value all order wholes form env us
  same_value (form.ForEvery v kind) ts us same env are apart = ap least (same_all v kind env are ts us same apart)
  same_value (form.ForSome v kind) ts us same env are apart = ap greatest (same_all v kind env are ts us same apart)
  same_value (form.EveryBefore v kind u) ts us same env are apart =
      ap least (same_before v kind env are ts us same (env u) (are u))
  same_value (form.SomeBefore v kind u) ts us same env are apart =
      ap greatest (same_before v kind env are ts us same (env u) (are u))
  same_value form.And ts us same env are apart = ap least (same env are)
  same_value form.Or ts us same env are apart = ap greatest (same env are)
  same_value form.Not ts us same env are apart = ap (λ (xs : List Three). opposite (first_value xs)) (same env are)
  same_value form.Implies ts us same env are apart =
      ap (λ (xs : List Three). either (opposite (first_value xs)) (second_value xs)) (same env are)
  same_value (form.Same v u) ts us same env are apart = refl
  same_value (form.Before v u) ts us same env are apart = refl
  same_value form ts us same env are apart =
      ap (λ (r : ℕ → Option Row). as_three (passes r form)) (fun_ext (λ (w : ℕ). same_row (env w) (are w)))

  -- each formula of a row has the same value with all rows, if no later row is reached by it
  same_values : (trees : Trees) → IsApart trees →
      PartsSame (values rows order wholes trees) (values all order wholes trees)
  same_values no_trees apart env are = refl
  same_values (tree_then form parts rest) apart env are =
      let (here, behind) = both_fail all count (λ row. is_of row (kind_of_all form))
      (λ row. reaches_row row parts || reaches_row row rest) apart in
      let (inside, beside) = both_fail all count (λ row. reaches_row row parts) (λ row. reaches_row row rest) behind in
      ap (λ (x : Three). x ∷ values rows order wholes rest env)
      (same_value form (values rows order wholes parts) (values all order wholes parts) (same_values parts inside)
      env are here)
      ∙ ap (λ (xs : List Three). value all order wholes form env (values all order wholes parts) ∷ xs)
      (same_values rest beside env are)

  -- a formula has the same value
  pub same_formula : (formula : Formula) → IsApart (tree_of formula) → (env : ℕ → Option ℕ) → AreFirst env →
      value_of rows order wholes formula env ≡ value_of all order wholes formula env
  same_formula formula apart env are = ap first_value (same_values (tree_of formula) apart env are)

  -- an `every` whose body no later row is reached by falls to the least of its values at these
  pub every_grown : (body : Formula) (v : ℕ) (kind : Kind) → IsApart (tree_of body) →
      over_rows all order wholes false body v kind None unbound
      ≡ both (over_rows rows order wholes false body v kind None unbound)
      (over_from all order wholes false body v kind None unbound count (length all - count))
  every_grown body v kind apart =
      let f = value_at all order wholes body v kind unbound in
      let g = value_at rows order wholes body v kind unbound in
      let numbers : List ℕ = range_with_len 0 (length rows) in
      let meant = is_meant rows order wholes body v kind unbound in
      let others : List ℕ = filter (is_meant all order wholes body v kind unbound) later in
      ap (λ (xs : List ℕ). least (map f xs)) (filter_more (λ o. has_kind kind o && true))
      ∙ ap least (map-append f (filter meant numbers) others)
      ∙ least_append (map f (filter meant numbers)) (map f others)
      ∙ ap (λ (ys : List Three). both (least ys) (least (map f others))) (sym (map_same g f (filter meant numbers)
      (λ i c. same_formula body apart (bind v i unbound) (one_more v i unbound
      (omega (arith, counted, range_bounds 0 (length rows) i (Contains-filter_cases meant numbers i c).0)) (λ w. tt)))))

  -- an `every` with another in it, whose body no later row is reached by, is true where it was, and
  -- where the body is true of each two rows of which one is a later one
  pub pairs_grown : (body : Formula) (v u : ℕ) (kind other : Kind) (inner : Box Formula Global) → (v == u) ≡ false →
      body ≡ ForEvery u other inner → IsApart (tree_of inner.value) →
      over_from all order wholes false body v kind None unbound count (length all - count) ≡ True →
      ((j : ℕ) → count ≤ j → j < length all → has_kind other (slice_get all j) ≡ true →
      over_rows all order wholes false inner.value v kind None (bind u j unbound) ≡ True) →
      over_rows rows order wholes false body v kind None unbound ≡ True →
      over_rows all order wholes false body v kind None unbound ≡ True
  pairs_grown body v u kind other inner differ is apart firsts seconds before =
      every_from all order wholes body v kind unbound (λ i within meant. elim (cases_lt i count) [
        | inl low ↦
            body_is all i ∙ every_from all order wholes inner.value u other (bind v i unbound) (λ j inside also.
            elim (cases_lt j count) [
              | inl under ↦ old i j low meant under also
              | inr past ↦
                  ap (value_of all order wholes inner.value) (turned v u i j unbound differ)
                  ∙ every_at all order wholes inner.value v kind (bind u j unbound) 0 (length all)
                  (seconds j past inside also) i (omega arith) (omega (arith, within)) meant
            ])
        | inr past ↦
            every_at all order wholes body v kind unbound count (length all - count) firsts i past
            (omega (arith, within, fits)) meant
      ])
    where
      -- the body's value is the inner one's
      body_is : (list : List Row) (i : ℕ) → value_of list order wholes body (bind v i unbound)
          ≡ over_rows list order wholes false inner.value u other None (bind v i unbound)
      body_is list i = rw is (value-ForEvery list order wholes (bind v i unbound) u other inner)

      -- at two first rows the innermost formula was true
      old : (i j : ℕ) → i < count → has_kind kind (slice_get all i) ≡ true → j < count →
          has_kind other (slice_get all j) ≡ true →
          value_of all order wholes inner.value (bind u j (bind v i unbound)) ≡ True
      old i j low meant under also =
          let first = every_at rows order wholes body v kind unbound 0 (length rows) before i (omega arith)
          (omega (arith, low, counted)) (ap (has_kind kind) (slice_get-take all count i low) ∙ meant) in
          let second = every_at rows order wholes inner.value u other (bind v i unbound) 0 (length rows)
          (sym (body_is rows i) ∙ first) j (omega arith) (omega (arith, under, counted))
          (ap (has_kind other) (slice_get-take all count j under) ∙ also) in
          sym (same_formula inner.value apart (bind u j (bind v i unbound))
          (one_more u j (bind v i unbound) under (one_more v i unbound low (λ w. tt)))) ∙ second
