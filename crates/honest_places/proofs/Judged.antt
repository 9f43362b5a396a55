-- What a report on an honest place says of the standard rules, and what it comes to.
use Rattle.honest_places.proofs.Imports
use Imports.{[], All-contains, AllZip, AllZip-map, ap, AreReadIn, AuditReport, Bool, Clean, Contains, End, EndClean}
use Imports.{entries_of, EntryGraph, false, is_some, IsHonestGraph, IsJudged, IsReadIn, List, list_any, LogRead, map}
use Imports.{nodes_of, not, Ok, or_from, or_parts, parents_of, ragged_of, refl, Row, RuleTree, SealedEntry}
use Imports.{standard_rules, sym, Three, three_in, true, true_from_ne_false, Verdict, World, ◌||◌, ◌∙◌, ◌≡◌, ◌≢◌}
use Rattle.auditor.specs.Outcomes.{graph_has_finding, has_finding, has_some, is_broken, is_clean, is_unsettled}
use Rattle.auditor.specs.Outcomes.{log_has_finding, outcome_by, outcome_of}
use Rattle.honest_places.proofs.Lists.{none_of, none_passes, zip_more, zip_right}
use Rattle.entry_order.specs.declared.three.Three.TheVariants as known
use Rattle.rule_engine.specs.declared.verdict.Verdict.TheVariants as verdict
use Rattle.auditor.specs.declared.outcome.Outcome.TheVariants as outcome

-- ---- verdicts on what is known of rules

module _ (rows : List Row) (graph : EntryGraph SealedEntry) where
  -- what is known of a rule by the graph
  abbrev value_of : RuleTree → Three
  value_of rule = three_in rows (parents_of graph.links) (ragged_of graph.links) rule.body

  -- the verdict is the one on the rule's value
  abbrev pub IsOn : RuleTree → Verdict → Type 0
  IsOn rule answer = IsJudged rows (nodes_of graph) rule.body (Ok answer)

  -- a verdict on a value that isn't false isn't Broken
  one_not_broken : (rule : RuleTree) (answer : Verdict) → IsOn rule answer → value_of rule ≢ known.False →
      is_broken answer ≡ false
  one_not_broken rule (verdict.Broken places) on free = absurd (free on.1.0)
  one_not_broken rule answer on free = refl

  -- a verdict on a true value is Kept
  one_kept : (rule : RuleTree) (answer : Verdict) → IsOn rule answer → value_of rule ≡ known.True →
      answer ≡ verdict.Kept
  one_kept rule verdict.Kept on held = refl
  one_kept rule (verdict.Broken places) on held = let no : known.True ≡ known.False = sym held ∙ on.1.0 in cc
  one_kept rule verdict.Unsettled on held = let no : known.True ≡ known.Unknown = sym held ∙ on.1 in cc

  module _ (rules : List RuleTree) (verdicts : List Verdict) (judged : AllZip IsOn rules verdicts) where
    -- where no rule is known to be false, no verdict is Broken
    pub none_broken : ((rule : RuleTree) → Contains rules rule → value_of rule ≢ known.False) → (answer : Verdict) →
        Contains verdicts answer → is_broken answer ≡ false
    none_broken free answer inside =
        let (rule, there, on) = zip_right IsOn rules verdicts judged answer inside in
        one_not_broken rule answer on (free rule there)

    -- where each rule is known to be true, each verdict is Kept
    pub all_kept : ((rule : RuleTree) → Contains rules rule → value_of rule ≡ known.True) →
        verdicts ≡ map (λ (rule : RuleTree). verdict.Kept) rules
    all_kept held =
        AllZip-map (λ (rule : RuleTree). verdict.Kept) rules verdicts
        (zip_more IsOn (λ rule answer. answer ≡ verdict.Kept) rules verdicts judged
        (λ rule answer there on. one_kept rule answer on (held rule there)))

-- ---- what a report comes to

-- where no verdict is Broken, the report doesn't come to that
not_broken : (unsettled found : Bool) → outcome_by false unsettled found ≢ outcome.Broken
not_broken true found is = cc
not_broken false true is = cc
not_broken false false is = cc

-- a report without a Broken verdict doesn't come to Broken
pub outcome_not_broken : (report : AuditReport) →
    ((answer : Verdict) → Contains report.verdicts answer → is_broken answer ≡ false) →
    outcome_of report ≢ outcome.Broken
outcome_not_broken report each same =
    not_broken (list_any is_unsettled report.verdicts) (has_finding report)
    (rw (none_of is_broken report.verdicts each) at same)

-- an end that isn't found unclean is clean
end_clean : (end : End) → not (is_clean end) ≡ false → end ≡ Clean
end_clean Clean is = refl
end_clean end is = cc

module _ (report : AuditReport) (kept : report.verdicts ≡ map (λ (rule : RuleTree). verdict.Kept) standard_rules) where
  -- where each rule is kept, the outcome hangs on the findings alone
  comes_by : outcome_of report ≡ outcome_by false false (has_finding report)
  comes_by =
      let found = has_finding report in
      ap (λ (vs : List Verdict). outcome_by (list_any is_broken vs) (list_any is_unsettled vs) found) kept

  -- a log whose end isn't clean is found
  pub torn_found : ¬ EndClean report.logs → outcome_of report ≡ outcome.Findings
  torn_found torn =
      comes_by ∙ ap (outcome_by false false) (true_from_ne_false (has_finding report) (λ none.
      let logs = (or_parts (list_any log_has_finding report.logs) (graph_has_finding report.graph) none).0 in
      torn (λ log inside.
      let each = none_passes log_has_finding report.logs logs log inside in
      let rest = (or_parts (has_some log.refused) (not (is_clean log.end) || is_some log.broke) each).1 in
      end_clean log.end (or_parts (not (is_clean log.end)) (is_some log.broke) rest).0)))

  -- where each log of an honest place ends clean, and there is no gap, nothing is found
  pub comes_to : (w : World SealedEntry) → AreReadIn w report.logs →
      IsHonestGraph w (entries_of report.logs) report.graph → report.graph.gaps ≡ [] → EndClean report.logs →
      outcome_of report ≡ outcome.Kept
  comes_to w read honest no_gap clean =
      comes_by ∙ ap (outcome_by false false) (or_from (list_any log_has_finding report.logs)
      (graph_has_finding report.graph) (none_of log_has_finding report.logs quiet)
      (rw (honest.no_stray, honest.no_fork, no_gap) refl))
    where
      -- no log has a finding
      quiet : (log : LogRead) → Contains report.logs log → log_has_finding log ≡ false
      quiet log inside =
          let is = (All-contains (IsReadIn w) report.logs log read inside).read in
          rw (is.none_refused, clean log inside, is.no_break) refl
