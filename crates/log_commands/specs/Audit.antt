-- The command `audit`.
use Rattle.std.specs.Prelude.{◌≡◌, ◌≢◌, ℕ, List, [], ◌∷◌, length, IsTrue, Option, Ok, codes}
use Rattle.std.specs.List.{AllZip}
use Rattle.entry_order.specs.Completion.{Completion}
use Rattle.roster.specs.declared.post.Post.{Post}
use Rattle.entry_format.specs.SealedEntry.{SealedEntry}
use Rattle.entry_format.specs.Nodes.{node_of}
use Rattle.entry_format.specs.declared.plain.Plain.{Plain}
use Rattle.entry_format.specs.Plains.{plains}
use Rattle.rule_language.specs.Trees.{RuleTree}
use Rattle.rule_meaning.specs.Meaning.{Holds}
use Rattle.rule_engine.specs.declared.verdict.Verdict.TheVariants as verdict
use Rattle.survivor_rows.specs.Rows.{row_said}
use Rattle.auditor.specs.Report.{AuditReport}
use Rattle.auditor.specs.Outcomes.{is_broken}
use Rattle.auditor.specs.Audits.{GivesReport, audit_files}
use Rattle.report_exactness.specs.ReportExact.{MayBeEither}
use Rattle.command_line.specs.declared.status.Status.TheVariants as status
use Rattle.command_line.specs.Lines.{Answer, OrRefused}
use Rattle.command_line.specs.Reports.{source_named}
use Rattle.log_commands.specs.ReportAnswers.{report_answer, report_statuses}
use Rattle.log_commands.specs.HonestAudit.{IsAuditOfPlaces}
use Rattle.command_line.specs.WordForms.{AreLogs}
use Rattle.command_line.specs.CommandParts.{CommandParts}

-- the rule holds of the survivors if these were all that there was, of which nothing is known but
-- what they say
abbrev pub HoldsOf : List Post → List SealedEntry → List Plain → RuleTree → Type 0
HoldsOf machines survivors G rule =
    Holds node_of (λ (plain : Plain). row_said machines plain.entry) (plains survivors) G rule.body

-- entries with such digests may be all that there was: they complete the survivors
abbrev pub Completes : List Post → List SealedEntry → List Plain → Type 0
Completes machines survivors G = Completion node_of (length machines) (plains survivors) G

-- What the verdicts of a report mean: a rule that is reported kept holds whatever was
-- lost, and one that is reported broken holds in no case. `some`: there is a way to complete the
-- survivors, so neither is said of nothing. A rule is unsettled only where there is a gap. A standard
-- rule that is unsettled holds in some case and doesn't hold in another, so nobody can settle it by the
-- same survivors (of P3 under a condition); and so it is of rules of one's own of a class.
pub record IsSound (report : AuditReport) : Type 0 where
  pub kept : AllZip
      (λ rule is. is ≡ verdict.Kept → (G : List Plain) → Completes report.machines report.graph.survivors G →
      HoldsOf report.machines report.graph.survivors G rule)
      report.rules report.verdicts
  pub broken : AllZip
      (λ rule is. IsTrue (is_broken is) → (G : List Plain) → Completes report.machines report.graph.survivors G →
      ¬ HoldsOf report.machines report.graph.survivors G rule)
      report.rules report.verdicts
  pub some : (G : List Plain) × Completes report.machines report.graph.survivors G
  pub unsettled : AllZip (λ rule is. is ≡ verdict.Unsettled → report.graph.gaps ≢ []) report.rules report.verdicts
  pub exact : AllZip (λ rule is. is ≡ verdict.Unsettled → MayBeEither report rule) report.rules report.verdicts

-- the answer is that of the report, whose verdicts mean what they say
pub record IsAuditOf (report : AuditReport) (answer : Answer) : Type 0 where
  pub sound : IsSound report
  pub told : answer ≡ report_answer report

-- the answer for these files: the first refusal, or that of the report
abbrev pub IsAuditOver : List ℕ → List ℕ → List (List ℕ) → List (Option (List ℕ)) → Answer → Type 0
IsAuditOver roster rules logs files answer =
    OrRefused (GivesReport roster (source_named rules) logs files) IsAuditOf answer

-- the answer for these files, and what it says where those of the logs are left of an honest place
pub record IsAuditAnswer (roster rules : List ℕ) (logs : List (List ℕ)) (files : List (Option (List ℕ)))
    (answer : Answer) : Type 0 where
  pub right : IsAuditOver roster rules logs files answer
  pub honest : IsAuditOfPlaces (source_named rules) logs files answer

-- The files give a report. So its graph isn't refused, and none of its rules is too wide.
abbrev pub GiveReport : List ℕ → List ℕ → List (List ℕ) → List (Option (List ℕ)) → Type 0
GiveReport roster rules logs files =
    (report : AuditReport) × GivesReport roster (source_named rules) logs files (Ok report)

-- `audit ROSTER RULES LOG..`; the word `standard` names rules that no file has
abbrev pub audit_parts : List ℕ → List ℕ → List (List ℕ) → CommandParts
audit_parts roster rules logs = record {
  words = codes "audit" ∷ roster ∷ rules ∷ logs;
  IsAllowed = AreLogs logs;
  files = audit_files roster (source_named rules) logs;
  IsAnswer = IsAuditAnswer roster rules logs;
  AreAccepted = GiveReport roster rules logs;
  statuses = report_statuses;
  absence = status.Absent;
}
