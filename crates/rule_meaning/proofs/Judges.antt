-- The values that the code comes to, step by step.
use Rattle.rule_meaning.proofs.Imports
use Imports.{[], ancestors, And, and-true, ap, append-nil, are_equal, arith, as_three, bind, Bool, both, Box, cond}
use Imports.{either, Equal, EveryBefore, false, filter, filter_agree, first_value, ForEvery, Formula, ForSome, Global}
use Imports.{greatest, has_kind, Implies, in_front, is_true, Kind, least, length, List, map, no_trees, None, opposite}
use Imports.{Option, Or, over, over_before, over_rows, places, Quantifier, range_with_len, refl, Row, row_at, rules}
use Imports.{second_value, shape, signed, slice_get, Some, SomeBefore, sym, Term, term_value, the_lemmas, Three}
use Imports.{tree_of, tree_then, Trees, trees_of, True, true, Unknown, unless_ragged, value_of, values, values_before}
use Imports.{Vec, view-And, view-Implies, view-Or, ◌&&◌, ◌++◌, ◌∙◌, ◌∷◌, ◌≡◌, ℕ}
use Rattle.rule_language.specs.declared.form.Form.TheVariants as form
use Rattle.rule_meaning.proofs.Kleenes.{lacking, greatest_by_least}
use Rattle.rule_meaning.proofs.SameOrders.{greatest_before_by_least}

-- the least of a value and true is the value
pub both_true : (x : Three) → both x True ≡ x
both_true x = grind arith

-- the least of three values doesn't depend on how they are bracketed
pub both_assoc : (x y z : Three) → both x (both y z) ≡ both (both x y) z
both_assoc x y z = grind arith

-- the least of values and of what is lacking is the least of both
least_lacking : (f : ℕ → Three) (is : List ℕ) (whole : Bool) →
    least (map f is ++ lacking whole) ≡ both (least (map f is)) (cond whole True Unknown)
least_lacking f [] true = refl
least_lacking f [] false = refl
least_lacking f (i ∷ is) whole =
    ap (both (f i)) (least_lacking f is whole) ∙ both_assoc (f i) (least (map f is)) (cond whole True Unknown)

-- the greatest of values is the opposite of the least of their opposites
greatest_of : {X : Type 0} (f : X → Three) (xs : List X) →
    greatest (map f xs) ≡ opposite (least (map (λ x. opposite (f x)) xs))
greatest_of f xs = simp append-nil at (greatest_by_least f xs true)

-- members picked by one test and then by another are those that pass both
filter_twice : (p q : ℕ → Bool) (xs : List ℕ) → filter q (filter p xs) ≡ filter (λ j. p j && q j) xs
filter_twice p q [] = refl
filter_twice p q (x ∷ xs) = by (p x) (filter_twice p q xs)
  where
    -- by cases: whether the first member passes the first test
    by : (b : Bool) → filter q (filter p xs) ≡ filter (λ j. p j && q j) xs →
        filter q (cond b (x ∷ filter p xs) (filter p xs))
        ≡ cond (b && q x) (x ∷ filter (λ j. p j && q j) xs) (filter (λ j. p j && q j) xs)
    by true rest = ap (λ (ys : List ℕ). cond (q x) (x ∷ ys) ys) rest
    by false rest = rest

-- an `every` is a form with its body
pub view-ForEvery : (v : ℕ) (kind : Kind) (body : Box Formula Global) →
    tree_of (ForEvery v kind body) ≡ tree_then (form.ForEvery v kind) (tree_of body.value) no_trees
view-ForEvery v kind body = search (rules, the_lemmas)

-- so is a `some`
pub view-ForSome : (v : ℕ) (kind : Kind) (body : Box Formula Global) →
    tree_of (ForSome v kind body) ≡ tree_then (form.ForSome v kind) (tree_of body.value) no_trees
view-ForSome v kind body = search (rules, the_lemmas)

-- and so is an `every` with `before`
pub view-EveryBefore : (v : ℕ) (kind : Kind) (u : ℕ) (body : Box Formula Global) →
    tree_of (EveryBefore v kind u body) ≡ tree_then (form.EveryBefore v kind u) (tree_of body.value) no_trees
view-EveryBefore v kind u body = search (rules, the_lemmas)

-- and a `some` with `before`
pub view-SomeBefore : (v : ℕ) (kind : Kind) (u : ℕ) (body : Box Formula Global) →
    tree_of (SomeBefore v kind u body) ≡ tree_then (form.SomeBefore v kind u) (tree_of body.value) no_trees
view-SomeBefore v kind u body = search (rules, the_lemmas)

module _ (rows : List Row) (order : ℕ → ℕ → Three) (wholes : ℕ → Bool) (env : ℕ → Option ℕ) where
  -- the value of the first formula of a row
  abbrev pub seen : Trees → Three
  seen trees = first_value (values rows order wholes trees env)

  -- the value of a formula
  abbrev of : Formula → Three
  of formula = value_of rows order wholes formula env

  -- the value of a quantifier's body at a row, or its opposite
  abbrev value_at : Bool → ℕ → Formula → ℕ → Three
  value_at some v body i = signed some (value_of rows order wholes body (bind v i env))

  -- the values of a row are the first formula's and those of the others
  values-in_front : (f : Formula) (rest : Trees) →
      values rows order wholes (in_front f rest) env ≡ of f ∷ values rows order wholes rest env
  values-in_front f rest = let (outer, parts, is) = shape f in rw (is rest, is no_trees) refl

  -- the values of formulas as a row are those of each
  values-trees_of : (fs : List Formula) → values rows order wholes (trees_of fs) env ≡ map of fs
  values-trees_of [] = refl
  values-trees_of (f ∷ fs) =
      values-in_front f (trees_of fs) ∙ ap (λ (xs : List Three). of f ∷ xs) (values-trees_of fs)

  -- an `and` is the least of its formulas' values
  pub value-And : (v : Vec Formula Global) → of (And v) ≡ over rows order wholes false v.items env
  value-And v = ap seen (view-And v) ∙ ap least (values-trees_of v.items)

  -- an `or` is the opposite of the least of their opposites
  pub value-Or : (v : Vec Formula Global) → of (Or v) ≡ opposite (over rows order wholes true v.items env)
  value-Or v = ap seen (view-Or v) ∙ ap greatest (values-trees_of v.items) ∙ greatest_of of v.items

  -- an `implies` is the greatest of the first one's opposite and the second
  pub value-Implies : (f g : Box Formula Global) → of (Implies f g) ≡ either (opposite (of f.value)) (of g.value)
  value-Implies f g =
      ap seen (view-Implies f g)
      ∙ ap (λ (xs : List Three). either (opposite (first_value xs)) (second_value xs))
      (values-in_front f.value (tree_of g.value))

  -- the least over the rows of a kind is over those that a quantifier goes over
  over_places : (some : Bool) (v : ℕ) (kind : Kind) (body : Formula) →
      least (map (value_at some v body) (places rows order wholes kind))
      ≡ over_rows rows order wholes some body v kind None env
  over_places some v kind body =
      let such = λ (j : ℕ). has_kind kind (slice_get rows j) in
      ap (λ (is : List ℕ). least (map (value_at some v body) is))
      (filter_agree such (λ j. such j && true) (λ j. sym (and-true (such j))) (range_with_len 0 (length rows)))

  -- an `every` is the least over the rows of the kind
  pub value-ForEvery : (v : ℕ) (kind : Kind) (body : Box Formula Global) →
      of (ForEvery v kind body) ≡ over_rows rows order wholes false body.value v kind None env
  value-ForEvery v kind body = ap seen (view-ForEvery v kind body) ∙ over_places false v kind body.value

  -- a `some` is the opposite of the least of the opposites over them
  pub value-ForSome : (v : ℕ) (kind : Kind) (body : Box Formula Global) →
      of (ForSome v kind body) ≡ opposite (over_rows rows order wholes true body.value v kind None env)
  value-ForSome v kind body =
      ap seen (view-ForSome v kind body)
      ∙ greatest_of (value_at false v body.value) (places rows order wholes kind)
      ∙ ap opposite (over_places true v kind body.value)

  -- the least over what comes before a variable's row, in which a row that isn't whole counts as unknown
  over_earlier : (some : Bool) (v : ℕ) (kind : Kind) (body : Formula) (u : Option ℕ) (q : Quantifier)
      (inner : Formula) → q ≡ record { some = some; v = v; kind = kind; within = None } → inner ≡ body →
      least (values_before rows order wholes kind u (value_at some v body))
      ≡ over_before rows order wholes q.some inner q.v q.kind env u
  over_earlier some v kind body None q inner is inside = refl
  over_earlier some v kind body (Some u) q inner is inside =
      let f = value_at some v body in
      rw (is, inside) (least_lacking f (ancestors rows order wholes kind u) (wholes u)
      ∙ ap (λ (is : List ℕ). both (least (map f is)) (unless_ragged wholes u))
      (filter_twice (λ j. has_kind kind (slice_get rows j)) (λ j. is_true (order j u))
      (range_with_len 0 (length rows))))

  -- an `every` with `before` is the least over what comes before its variable's row
  pub value-EveryBefore : (v : ℕ) (kind : Kind) (u : ℕ) (body : Box Formula Global) (q : Quantifier)
      (inner : Formula) → q ≡ record { some = false; v = v; kind = kind; within = None } → inner ≡ body.value →
      of (EveryBefore v kind u body) ≡ over_before rows order wholes q.some inner q.v q.kind env (env u)
  value-EveryBefore v kind u body q inner is inside =
      ap seen (view-EveryBefore v kind u body) ∙ over_earlier false v kind body.value (env u) q inner is inside

  -- a `some` with `before` is the opposite of the least of the opposites over it
  pub value-SomeBefore : (v : ℕ) (kind : Kind) (u : ℕ) (body : Box Formula Global) (q : Quantifier)
      (inner : Formula) → q ≡ record { some = true; v = v; kind = kind; within = None } → inner ≡ body.value →
      of (SomeBefore v kind u body) ≡ opposite (over_before rows order wholes q.some inner q.v q.kind env (env u))
  value-SomeBefore v kind u body q inner is inside =
      ap seen (view-SomeBefore v kind u body)
      ∙ greatest_before_by_least rows order wholes kind (env u) (value_at false v body.value)
      ∙ ap opposite (over_earlier true v kind body.value (env u) q inner is inside)

  -- the row that a variable stands for
  abbrev at_place : ℕ → Option Row
  at_place w = row_at rows (env w)

  -- a test of equal terms is true or false by what they stand for
  pub value-Equal : (t s : Term) →
      of (Equal t s) ≡ as_three (are_equal (term_value at_place t) (term_value at_place s))
  value-Equal t s =
      let view : tree_of (Equal t s) ≡ tree_then (form.Equal t s) no_trees no_trees = search (rules, the_lemmas) in
      ap seen view
