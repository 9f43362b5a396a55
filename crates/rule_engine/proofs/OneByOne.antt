-- Rules judged one after another.
use Rattle.rule_engine.proofs.Imports.{[], all_zipped_more, ap, AreJudged, false, get_or, Graph, is_too_wide}
use Rattle.rule_engine.proofs.Imports.{IsFirstTooWide, IsJudged, length, List, map, map_more, Ok, option_map, refl, Row}
use Rattle.rule_engine.proofs.Imports.{Rule, rule_tree, RuleTree, same_Some, slice_get, slice_get-map, slice_get_read}
use Rattle.rule_engine.proofs.Imports.{Some, suc, sym, take, take-map, true, Verdict, zero, ℕ, ◌++◌, ◌+◌, ◌<◌, ◌∙◌, ◌∷◌}
use Rattle.rule_engine.proofs.{Imports.◌≡◌, Lists.slice_get-take}

-- one verdict more
pub judged_more : (rows : List Row) (graph : Graph) (rules : List Rule) (i : ℕ) (rule : Rule) (verdicts : List Verdict)
    (verdict : Verdict) → i < length rules → rule ≡ get_or rules i rule →
    AreJudged rows graph (map rule_tree (take i rules)) verdicts →
    IsJudged rows graph (rule_tree rule).body (Ok verdict) →
    AreJudged rows graph (map rule_tree (take (i + 1) rules)) (verdicts ++ verdict ∷ [])
judged_more rows graph rules i rule verdicts verdict within is so_far judged =
    rw (map_more rule_tree rules i rule within, ← is)
    (all_zipped_more (λ (r : RuleTree) (v : Verdict). IsJudged rows graph r.body (Ok v)) (map rule_tree (take i rules))
    verdicts (rule_tree rule) verdict so_far judged)

-- a rule that was judged isn't too wide
pub judged_is_narrow : (rows : List Row) (graph : Graph) (trees : List RuleTree) (verdicts : List Verdict) (k : ℕ)
    (tree : RuleTree) → AreJudged rows graph trees verdicts → slice_get trees k ≡ Some tree →
    is_too_wide rows tree.body 1 ≡ false
judged_is_narrow rows graph [] verdicts k tree judged at = cc
judged_is_narrow rows graph (t ∷ trees) [] k tree judged at = absurd judged
judged_is_narrow rows graph (t ∷ trees) (v ∷ verdicts) zero tree judged at =
    ap (λ (r : RuleTree). is_too_wide rows r.body 1) (same_Some tree t (sym at)) ∙ judged.0.0
judged_is_narrow rows graph (t ∷ trees) (v ∷ verdicts) (suc k) tree judged at =
    judged_is_narrow rows graph trees verdicts k tree judged.1 at

-- the rule after those that were judged is the first that is too wide
pub first_too_wide : (rows : List Row) (graph : Graph) (rules : List Rule) (i : ℕ) (rule : Rule)
    (verdicts : List Verdict) → i < length rules → rule ≡ get_or rules i rule →
    AreJudged rows graph (map rule_tree (take i rules)) verdicts → is_too_wide rows (rule_tree rule).body 1 ≡ true →
    IsFirstTooWide rows (map rule_tree rules) i
first_too_wide rows graph rules i rule verdicts within is so_far wide = record {
  rule = rule_tree rule;
  stands = slice_get-map rule_tree rules i
      ∙ ap (option_map rule_tree) (slice_get_read rules (length rules) i rule refl within is);
  too_wide = wide;
  first = λ k tree below stands. judged_is_narrow rows graph (map rule_tree (take i rules)) verdicts k tree so_far
      (ap (λ (trees : List RuleTree). slice_get trees k) (sym (take-map rule_tree i rules))
      ∙ slice_get-take (map rule_tree rules) i k below ∙ stands);
}
