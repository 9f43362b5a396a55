-- The places at which rules are broken are survivors'.
use Rattle.auditor.proofs.Imports.{[], All, All-from_recursion, AllZip-long, and_then, AreJudged, arith, before, bind}
use Rattle.auditor.proofs.Imports.{Bool, Broken, broken, broken_by, ByRecursion, cond, false, find, first_false}
use Rattle.auditor.proofs.Imports.{first_value, Form, Graph, has_kind, is_false, is_whole, IsBelow, IsJudged, IsVerdict}
use Rattle.auditor.proofs.Imports.{length, List, no_trees, None, Ok, Option, range_with_len, refl, Row, RuleTree}
use Rattle.auditor.proofs.Imports.{slice_get, Some, suc, sym, Three, tree_then, Trees, true, unbound, Unsettled, values}
use Rattle.auditor.proofs.Imports.{Verdict, zero, ℕ, ◌&&◌, ◌+◌, ◌<◌, ◌∷◌, ◌≡◌}
use Rattle.rule_language.specs.declared.form.Form.TheVariants as form
use Rattle.rule_engine.specs.declared.verdict.Verdict.TheVariants.{Kept}

-- what is found in a range is below its end
found_step : (b : Bool) (i n found : ℕ) (later : Option ℕ) → (later ≡ Some found → found < i + 1 + n) →
    cond b (Some i) later ≡ Some found → found < i + suc n
found_step true i n found later rest e = let same : i ≡ found = cc in omega (arith, same)
found_step false i n found later rest e = let less = rest e in omega (arith, less)

-- the first that passes of n numbers from i on is below i + n
found_below : (p : ℕ → Bool) (i n found : ℕ) → find p (range_with_len i n) ≡ Some found → found < i + n
found_below p i zero found e = cc
found_below p i (suc n) found e =
    found_step (p i) i n found (find p (range_with_len (i + 1) n)) (λ h. found_below p (i + 1) n found h) e

module _ (rows : List Row) (order : ℕ → ℕ → Three) (wholes : ℕ → Bool) where
  -- each place is that of a row
  abbrev Below : List ℕ → Type 0
  Below = ByRecursion (λ place. place < length rows)

  -- where the place found first is a row's, and so are those found deeper under it, all of them are
  first_then : (first : Option ℕ) (deeper : ℕ → List ℕ) → ((i : ℕ) → first ≡ Some i → i < length rows) →
      ((i : ℕ) → Below (deeper i)) → Below (and_then rows order wholes first deeper)
  first_then None deeper within inner = tt
  first_then (Some i) deeper within inner = (within i refl, inner i)

  -- so is each place that a form adds
  form_below : (form : Form) (env : ℕ → Option ℕ) (value : (ℕ → Option ℕ) → Three)
      (deeper : (ℕ → Option ℕ) → List ℕ) → ((e : ℕ → Option ℕ) → Below (deeper e)) →
      Below (broken_by rows order wholes form env value deeper)
  form_below (form.ForEvery v kind) env value deeper inner =
      first_then (first_false rows order wholes kind (λ i. value (bind v i env)) 0 (length rows))
      (λ i. deeper (bind v i env))
      (λ i e.
      let less = found_below (λ j. has_kind kind (slice_get rows j) && is_false (value (bind v j env)))
      0 (length rows) i e in
      omega (arith, less))
      (λ i. inner (bind v i env))
  form_below other env value deeper inner = tt

  -- and so is each place at which a formula is broken
  broken_below : (trees : Trees) (env : ℕ → Option ℕ) → Below (broken rows order wholes trees env)
  broken_below no_trees env = tt
  broken_below (tree_then form parts rest) env =
      form_below form env (λ e. first_value (values rows order wholes parts e)) (broken rows order wholes parts)
      (λ e. broken_below parts e)

  -- the places of a verdict are those of rows
  pub verdict_below : (tree : Trees) (verdict : Verdict) → IsVerdict rows order wholes tree verdict →
      IsBelow (length rows) verdict
  verdict_below tree Kept is = tt
  verdict_below tree (Broken places) (fails, are) =
      rw are
      (All-from_recursion (λ place. place < length rows) (broken rows order wholes tree unbound)
      (broken_below tree unbound))
  verdict_below tree Unsettled is = tt

-- so are those of all verdicts
each_below : (rows : List Row) (graph : Graph) (rules : List RuleTree) (verdicts : List Verdict) →
    AreJudged rows graph rules verdicts → ByRecursion (IsBelow (length rows)) verdicts
each_below rows graph [] [] judged = tt
each_below rows graph (r ∷ rules) (v ∷ verdicts) judged = (
  verdict_below rows (before graph.parents graph.ragged) (λ x. is_whole graph.parents graph.ragged x x) r.body v
      judged.0.1,
  each_below rows graph rules verdicts judged.1,
)
each_below rows graph rules verdicts judged = absurd judged

-- all verdicts name places of rows
pub verdicts_below : (rows : List Row) (graph : Graph) (rules : List RuleTree) (verdicts : List Verdict) →
    AreJudged rows graph rules verdicts → All (IsBelow (length rows)) verdicts
verdicts_below rows graph rules verdicts judged =
    All-from_recursion (IsBelow (length rows)) verdicts (each_below rows graph rules verdicts judged)

-- as many verdicts as rules
pub as_many : (rows : List Row) (graph : Graph) (rules : List RuleTree) (verdicts : List Verdict) →
    AreJudged rows graph rules verdicts → length rules ≡ length verdicts
as_many rows graph rules verdicts judged = sym
    (AllZip-long (λ (rule : RuleTree) (verdict : Verdict). IsJudged rows graph rule.body (Ok verdict)) rules verdicts
    judged)
