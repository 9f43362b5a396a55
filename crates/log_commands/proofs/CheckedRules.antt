-- Rules checked one after another.
use Rattle.log_commands.proofs.Imports
use Imports.{[], all_zipped_more, ap, AreChecked, CheckFault, Err, get_or, Graph, IsCheckAnswer, IsFirstTooWide, length}
use Imports.{Line, List, map, map_more, Ok, option_map, Row, Rule, rule_tree, slice_get, slice_get-get_or}
use Imports.{slice_get-map, slice_get_take, Some, subst, sym, take, take-map, ℕ, ◌++◌, ◌+◌, ◌<◌, ◌∙◌, ◌∷◌, ◌≡◌}
use Rattle.log_commands.proofs.OneProof.{checked_is_narrow}
use Rattle.audit_proof.specs.{declared.fault.CheckFault.TheVariants.TooWide, declared.fault.Verdict.Verdict}

-- the first rules and one more
trees_more : (rules : List Rule) (i : ℕ) (rule : Rule) → i < length rules → rule ≡ get_or rules i rule →
    map rule_tree (take i rules) ++ rule_tree rule ∷ [] ≡ map rule_tree (take (i + 1) rules)
trees_more rules i rule within is =
    sym (map_more rule_tree rules i rule within
    ∙ ap (λ (r : Rule). map rule_tree (take i rules) ++ rule_tree r ∷ []) (sym is))

module _ (rows : List Row) (graph : Graph) (lines : List Line) (rules : List Rule) (i : ℕ) (rule : Rule)
    (verdicts : List Verdict) (within : i < length rules) (is : rule ≡ get_or rules i rule)
    (so_far : AreChecked rows graph lines (map rule_tree (take i rules)) verdicts) where
  -- one verdict more
  pub checked_more : (verdict : Verdict) →
      IsCheckAnswer rows graph.ragged lines (rule_tree rule).body (Ok verdict) →
      AreChecked rows graph lines (map rule_tree (take (i + 1) rules)) (verdicts ++ verdict ∷ [])
  checked_more verdict checked =
      subst (λ trees. AreChecked rows graph lines trees (verdicts ++ verdict ∷ [])) (trees_more rules i rule within is)
      (all_zipped_more _ (map rule_tree (take i rules)) verdicts (rule_tree rule) verdict so_far checked)

  -- the rule after those that were checked is the first that is too wide
  pub first_too_wide : (fault : CheckFault) → fault ≡ TooWide →
      IsCheckAnswer rows graph.ragged lines (rule_tree rule).body (Err fault) →
      IsFirstTooWide rows (map rule_tree rules) i
  first_too_wide fault at answer = record {
    rule = rule_tree rule;
    stands = slice_get-map rule_tree rules i
        ∙ ap (option_map rule_tree) (slice_get-get_or rules i rule within ∙ ap Some (sym is));
    too_wide = subst (λ (f : CheckFault). IsCheckAnswer rows graph.ragged lines (rule_tree rule).body (Err f)) at answer;
    first = λ k tree below there.
        checked_is_narrow rows graph lines (map rule_tree (take i rules)) verdicts k tree so_far
        (ap (λ trees. slice_get trees k) (sym (take-map rule_tree i rules))
        ∙ slice_get_take i (map rule_tree rules) k below ∙ there);
  }
