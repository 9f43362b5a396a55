-- The command `watch`.
use Rattle.log_commands.proofs.Imports
use Imports.{Answer, ap, AreJudged, AreSummaries, AuditReport, carried_out_as, Contains, contains_as, entries_of}
use Imports.{EntryGraph, Err, Evidence, FilesGiveOneReport, GivesGraph, GivesWatch, HasOneAnswer, HasStatuses, inl, inr}
use Imports.{IsCarriedOut, IsCompleted, List, map, nodes_of, Ok, Option, Outcome, outcome_of, report_on}
use Imports.{report_statuses, row_of, RulesAreReadInOneWay, RuleSource, same_or, SealedEntry, source_named, Status}
use Imports.{status_by, status_is, subst, Summary, sym, watch_answer, watch_parts, Watches, ℕ, ◌∙◌, ◌≡◌}
use Rattle.log_commands.proofs.{FilesBegun.found_then, FilesBegun.same_found, OneOrderAnswer.OrderOne}
use Rattle.log_commands.proofs.{OneWatch.one_watch, ReportCommands.absent_status, ReportCommands.outcome_done}
use Rattle.log_commands.proofs.{ReportCommands.outcome_status, ReportCommands.refused_status}
use Rattle.log_commands.proofs.{ReportCommands.report_statuses_some}
use Rattle.command_line.proofs.CommandProofs.{of_refusal}
use Rattle.rule_engine.specs.declared.verdict.Verdict.{Verdict}

-- over files it has one answer
pub watch_one : OrderOne → RulesAreReadInOneWay → FilesGiveOneReport → (roster rules : List ℕ)
    (logs : List (List ℕ)) → HasOneAnswer (watch_parts roster rules logs)
watch_one order readings reports roster rules logs files a b =
    same_or (λ (x y : Answer). x ≡ y) _ (λ told other. other ≡ told) a b
    (one_watch order readings reports roster (source_named rules) logs files)
    (λ f g gives same x y. x ∙ same ∙ sym y)

-- what an answer without a refusal is made of
pub record IsToldOf (names : List (List ℕ)) (evidence : Evidence) (told : Answer) : Type 0 where
  pub graph : EntryGraph SealedEntry
  pub graphed : GivesGraph (entries_of evidence.logs) (Ok graph)
  pub summaries : List Summary
  pub said : AreSummaries evidence.machines evidence.rules (entries_of evidence.logs) summaries
  pub verdicts : List Verdict
  pub judged : AreJudged (map (row_of evidence.machines) graph.survivors) (nodes_of graph) evidence.rules verdicts
  pub is : told ≡ watch_answer summaries (report_on evidence.machines names evidence.logs graph evidence.rules verdicts)

-- its report
abbrev pub report_in : {names : List (List ℕ)} {evidence : Evidence} {told : Answer} → IsToldOf names evidence told →
    AuditReport
report_in {names} {evidence} of =
    report_on evidence.machines names evidence.logs of.graph evidence.rules of.verdicts

pub told_of : (source : RuleSource) (names : List (List ℕ)) (evidence : Evidence) (told : Answer) →
    Watches source names evidence (Ok told) → IsToldOf names evidence told
told_of source names evidence told watches =
    let (graph, graphed, by_graph) = found_then watches in
    let (summaries, (few, said), by_lines) = found_then by_graph in
    let (report, reports, e) = found_then by_lines in
    let (verdicts, judged, f) = found_then reports in
    record {
      graph = graph;
      graphed = graphed;
      summaries = summaries;
      said = said;
      verdicts = verdicts;
      judged = judged;
      is = same_found e ∙ ap (watch_answer summaries) (same_found f);
    }

-- what holds of each status of a report holds of that of the answer
of_status : (roster : List ℕ) (source : RuleSource) (names : List (List ℕ)) (files : List (Option (List ℕ)))
    (told : Answer) → GivesWatch roster source names files (Ok told) → (P : Status → Type 0) →
    ((came : Outcome) → P (status_by came)) → P told.status
of_status roster source names files told gives P each =
    let (found, read, watched) = found_then gives in
    let of = told_of source names found told watched in
    subst P (sym (status_is told _ of.is)) (each (outcome_of (report_in of)))

-- `watch` is carried out over files that give its answer
pub watch_completed : OrderOne → RulesAreReadInOneWay → FilesGiveOneReport → (roster rules : List ℕ)
    (logs : List (List ℕ)) → IsCompleted (watch_parts roster rules logs)
watch_completed order readings reports roster rules logs files answer (inl (refusal, gives, e)) (other, given) =
    absurd (one_watch order readings reports roster (source_named rules) logs files (Err refusal) (Ok other) gives given)
watch_completed order readings reports roster rules logs files answer (inr (told, gives, is)) accepted =
    carried_out_as answer told is (of_status roster (source_named rules) logs files told gives IsCarriedOut
    outcome_done)

-- `watch` answers with one of its statuses
pub watch_has_statuses : (roster rules : List ℕ) (logs : List (List ℕ)) → HasStatuses (watch_parts roster rules logs)
watch_has_statuses roster rules logs = record { own = own; some = report_statuses_some }
  where
    own : (files : List (Option (List ℕ))) (answer : Answer) → (watch_parts roster rules logs).IsAnswer files answer →
        Contains report_statuses answer.status
    own files answer (inl (refusal, gives, e)) =
        contains_as report_statuses answer _ e (of_refusal report_statuses refused_status absent_status refusal)
    own files answer (inr (told, gives, is)) =
        contains_as report_statuses answer told is
        (of_status roster (source_named rules) logs files told gives (Contains report_statuses) outcome_status)
