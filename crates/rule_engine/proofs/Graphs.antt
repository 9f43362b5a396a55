-- Two orders that agree on the survivors' places give a rule one answer.
use Rattle.rule_engine.proofs.Imports
use Imports.{[], and_parts, and_then, ap, AreRows, arith, before, bind, Bool, Broken, broken, cases_Bool, Err, false}
use Imports.{find, first_false, first_value, fun_ext, Graph, has_kind, inl, inr, is_false, is_whole, IsJudgeAnswer}
use Imports.{IsJudged, IsKnownOf, JudgeFault, Kept, Kind, Known, known_before, known_count, known_whole, length, List}
use Imports.{Memory, no_trees, None, Ok, one_more, Option, range_with_len, Ready, refl, Result, Row, row_of_kind}
use Imports.{same_Some, same_values, slice_get, Some, sym, Three, TooWide, tree_then, Trees, true, unbound, Unsettled}
use Imports.{values, Verdict, ℕ, ◌&&◌, ◌<◌, ◌∙◌, ◌∷◌, ◌≡◌}
use Rattle.rule_language.specs.declared.form.Form.TheVariants as form

-- what a search finds passes the test
find_meets : (p : ℕ → Bool) (xs : List ℕ) (i : ℕ) → find p xs ≡ Some i → p i ≡ true
find_meets p [] i is = cc
find_meets p (x ∷ xs) i is = elim (cases_Bool (p x)) [
  | inl here ↦ ap p (sym (same_Some x i (rw here at is))) ∙ here
  | inr past ↦ find_meets p xs i (rw past at is)
]

module _ (rows : List Row) (order order' : ℕ → ℕ → Three) (wholes wholes' : ℕ → Bool)
    (orders : (y x : ℕ) → x < length rows → order y x ≡ order' y x)
    (whole : (x : ℕ) → x < length rows → wholes x ≡ wholes' x) where
  -- all variables stand for rows
  abbrev AllRows : (ℕ → Option ℕ) → Type 0
  AllRows env = AreRows rows order order' wholes wholes' orders whole env

  -- the first row at which the value is false is one
  abbrev first_of : Kind → (ℕ → Three) → Option ℕ
  first_of kind f = first_false rows order wholes kind f 0 (length rows)

  -- functions that are false at the same rows are false first at the same row
  same_first : (kind : Kind) (f g : ℕ → Three) → ((i : ℕ) → i < length rows → f i ≡ g i)
      → first_of kind f ≡ first_of kind g
  same_first kind f g same =
      ap (λ (p : ℕ → Bool). find p (range_with_len 0 (length rows)))
      (fun_ext (λ (j : ℕ). at j (has_kind kind (slice_get rows j)) refl))
    where
      -- the same row by row, by whether the row is of the kind
      at : (j : ℕ) (b : Bool) → has_kind kind (slice_get rows j) ≡ b → (b && is_false (f j)) ≡ (b && is_false (g j))
      at j true is = ap is_false (same j (row_of_kind rows kind j is))
      at j false is = refl

  -- the first row at which a value is false is a row
  first_is_row : (kind : Kind) (f : ℕ → Three) (i : ℕ) → first_of kind f ≡ Some i → i < length rows
  first_is_row kind f i is =
      row_of_kind rows kind i (and_parts (has_kind kind (slice_get rows i)) (is_false (f i))
      (find_meets (λ j. has_kind kind (slice_get rows j) && is_false (f j)) (range_with_len 0 (length rows)) i is)).0

  -- the same first row followed by the same rows makes the same list
  same_then : (o : Option ℕ) (d e : ℕ → List ℕ) → ((i : ℕ) → o ≡ Some i → d i ≡ e i) →
      and_then rows order wholes o d ≡ and_then rows order' wholes' o e
  same_then None d e same = refl
  same_then (Some i) d e same = ap (λ (xs : List ℕ). i ∷ xs) (same i refl)

  -- a row of formulas has the same values
  all_same : (trees : Trees) (env : ℕ → Option ℕ) → AllRows env →
      values rows order wholes trees env ≡ values rows order' wholes' trees env
  all_same = same_values rows order order' wholes wholes' orders whole

  -- a rule is broken at the same rows by both orders
  same_broken : (trees : Trees) (env : ℕ → Option ℕ) → AllRows env →
      broken rows order wholes trees env ≡ broken rows order' wholes' trees env
  same_broken no_trees env are = refl
  same_broken (tree_then (form.ForEvery v kind) parts rest) env are =
      let f = λ (i : ℕ). first_value (values rows order wholes parts (bind v i env)) in
      let g = λ (i : ℕ). first_value (values rows order' wholes' parts (bind v i env)) in
      let more = λ (i : ℕ) (is : i < length rows).
      one_more rows order order' wholes wholes' orders whole v i env is are in
      same_then (first_of kind f) (λ i. broken rows order wholes parts (bind v i env))
      (λ i. broken rows order' wholes' parts (bind v i env))
      (λ i is. same_broken parts (bind v i env) (more i (first_is_row kind f i is)))
      ∙ ap (λ (o : Option ℕ). and_then rows order' wholes' o (λ i. broken rows order' wholes' parts (bind v i env)))
      (same_first kind f g (λ i is. ap first_value (all_same parts (bind v i env) (more i is))))
  same_broken (tree_then form parts rest) env are = refl

  -- the answer on a rule is right by both orders
  pub same_answer : (rule : Trees) (result : Result Verdict JudgeFault) → IsJudgeAnswer rows order wholes rule result →
      IsJudgeAnswer rows order' wholes' rule result
  same_answer rule (Ok Kept) (fits, says) = (fits, sym (ap first_value (all_same rule unbound (λ v. tt))) ∙ says)
  same_answer rule (Ok (Broken found)) (fits, (says, is)) = (
    fits,
    (sym (ap first_value (all_same rule unbound (λ v. tt))) ∙ says, is ∙ same_broken rule unbound (λ v. tt)),
  )
  same_answer rule (Ok Unsettled) (fits, says) = (fits, sym (ap first_value (all_same rule unbound (λ v. tt))) ∙ says)
  same_answer rule (Err TooWide) a = a
  same_answer rule (Err Memory) a = a

-- what rows of bits say of a graph is what the graph says
pub answer_by_graph : (rows : List Row) (known : Known) (ready : Ready) →
    ready ≡ record { rows = rows; known = known } → length rows ≡ known_count known → (graph : Graph) →
    IsKnownOf graph ready.known → (rule : Trees) (result : Result Verdict JudgeFault) →
    IsJudgeAnswer rows (known_before known) (known_whole known) rule result → IsJudged ready.rows graph rule result
answer_by_graph rows known ready is as_many graph fits rule result answer =
    let right = rw is at fits in
    let count = as_many ∙ right.nodes in
    rw is (same_answer rows (known_before known) (before graph.parents graph.ragged) (known_whole known)
    (λ x. is_whole graph.parents graph.ragged x x) (λ y x l. right.orders y x (omega (arith, count, l)))
    (λ x l. right.wholes x (omega (arith, count, l))) rule result answer)
