-- What files give as a report is sound.
use Rattle.log_commands.proofs.Imports.{[], AuditReport, Completes, entries_of, False, given, GivesReport, HoldsOf}
use Rattle.log_commands.proofs.Imports.{is_broken, IsJudged, IsReport, IsSound, IsTrue, length, List, map}
use Rattle.log_commands.proofs.Imports.{node_of_sealed, nodes_of, Ok, Option, parents_of, Plain, plain_rules, ragged_of}
use Rattle.log_commands.proofs.Imports.{reports_are_exact, row_of, row_said, RuleSource, RuleTree, subst, sym, three_in}
use Rattle.log_commands.proofs.Imports.{True, unknown_only_by_gaps, ℕ, ◌∙◌, ◌≡◌, ◌≢◌}
use Rattle.log_commands.proofs.{PlainSurvivors.some_completion, Zips.zip_weaker}
use Rattle.rule_engine.specs.declared.verdict.Verdict.{Verdict}
use Rattle.rule_engine.specs.declared.verdict.Verdict.TheVariants as verdict

-- the report that files give says what holds
pub given_is_sound : (roster : List ℕ) (source : RuleSource) (names : List (List ℕ)) (files : List (Option (List ℕ)))
    (report : AuditReport) → GivesReport roster source names files (Ok report) → IsSound report
given_is_sound roster source names files report gives = record {
  kept = zip_weaker _ _ kept report.rules report.verdicts is.judged;
  broken = zip_weaker _ _ broken report.rules report.verdicts is.judged;
  some = some_completion report.machines (entries_of report.logs) report.graph is.makers is.graphed;
  unsettled = zip_weaker _ _ unsettled report.rules report.verdicts is.judged;
  exact = reports_are_exact roster source names files report gives;
}
  where
    is : IsReport report
    is = (given roster names report source files gives).is

    -- one verdict is that of its rule
    Judged : RuleTree → Verdict → Type 0
    Judged rule v = IsJudged (map (row_of report.machines) report.graph.survivors) (nodes_of report.graph) rule.body (Ok v)

    -- what a rule's value says of it
    means : (G : List Plain) → Completes report.machines report.graph.survivors G → (rule : RuleTree) →
        (three_in (map (row_of report.machines) report.graph.survivors) (parents_of report.graph.links)
        (ragged_of report.graph.links) rule.body ≡ True → HoldsOf report.machines report.graph.survivors G rule)
        × (three_in (map (row_of report.machines) report.graph.survivors) (parents_of report.graph.links)
        (ragged_of report.graph.links) rule.body ≡ False → ¬ HoldsOf report.machines report.graph.survivors G rule)
    means G whole rule =
        plain_rules (row_said report.machines) (length report.machines) report.graph.survivors
        (parents_of report.graph.links) (ragged_of report.graph.links) is.graphed.2.kept.numbered
        is.graphed.2.kept.linked.arrows G whole rule.body

    kept : (rule : RuleTree) (v : Verdict) → Judged rule v → v ≡ verdict.Kept → (G : List Plain) →
        Completes report.machines report.graph.survivors G → HoldsOf report.machines report.graph.survivors G rule
    kept rule v judged e G whole = (means G whole rule).0 (subst (Judged rule) e judged).1

    broken : (rule : RuleTree) (v : Verdict) → Judged rule v → IsTrue (is_broken v) → (G : List Plain) →
        Completes report.machines report.graph.survivors G → ¬ HoldsOf report.machines report.graph.survivors G rule
    broken rule (verdict.Broken places) judged e G whole = (means G whole rule).1 judged.1.0
    broken rule v judged e G whole = cc

    unsettled : (rule : RuleTree) (v : Verdict) → Judged rule v → v ≡ verdict.Unsettled → report.graph.gaps ≢ []
    unsettled rule v judged e none =
        (unknown_only_by_gaps node_of_sealed (row_of report.machines) _ _ _ is.graphed.2.kept.linked.arrows rule.body (subst (Judged rule) e judged).1).1
        (sym is.graphed.2.kept.gaps ∙ none)
