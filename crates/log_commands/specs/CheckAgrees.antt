-- What a check by the proof that `prove` writes has in common with an audit.
use Rattle.std.specs.Prelude.{◌≡◌, ◌⊎◌, ℕ, List, [], ◌∷◌, ◌++◌, map, Option, Some, Ok}
use Rattle.std.specs.List.{AllZip}
use Rattle.rule_engine.specs.declared.verdict.Verdict.{Verdict as AuditVerdict}
use Rattle.rule_engine.specs.declared.verdict.Verdict.TheVariants as audited
use Rattle.audit_proof.specs.declared.fault.Verdict.{Verdict}
use Rattle.audit_proof.specs.declared.fault.Verdict.TheVariants.{Kept, Broken, Unsettled}
use Rattle.auditor.specs.Audits.{GivesReport}
use Rattle.auditor.specs.Report.{AuditReport}
use Rattle.honest_places.specs.Places.{files_read}
use Rattle.command_line.specs.Lines.{Answer}
use Rattle.log_commands.specs.Audit.{IsSound}
use Rattle.command_line.specs.Reports.{source_named}
use Rattle.log_commands.specs.Prove.{IsProofOver}
use Rattle.log_commands.specs.Check.{IsCheckOver, check_answer}
use Rattle.command_line.specs.Reports.{IsOfReport}

-- what an audit answers of a rule, without the entries by which it is broken
abbrev pub without_entries : AuditVerdict → Verdict
without_entries audited.Kept = Kept
without_entries (audited.Broken places) = Broken
without_entries audited.Unsettled = Unsettled

-- The proof's file holds what `prove` writes for the same roster and logs, and the files give an
-- audit a report. Then `check` answers with the verdicts of that report, rule for rule, and these
-- mean what they say: so what is unsettled by a whole proof is really open.
abbrev pub ChecksAgreeWithAudits : Type 0
ChecksAgreeWithAudits =
    (roster rules proof : List ℕ) (logs : List (List ℕ)) (roster_file rules_file : Option (List ℕ))
    (log_files : List (Option (List ℕ))) (text : List ℕ) (proved checked : Answer)
    (report : AuditReport) → IsProofOver roster proof logs (roster_file ∷ log_files) proved →
    proved.files ≡ (proof, text) ∷ [] →
    GivesReport roster (source_named rules) logs
    (files_read roster_file (source_named rules) rules_file log_files) (Ok report) →
    IsCheckOver roster rules proof logs
    (files_read roster_file (source_named rules) rules_file (log_files ++ Some text ∷ [])) checked →
    (checked ≡ check_answer report.rules (map without_entries report.verdicts)) × IsSound report

-- a verdict by a proof is the audit's, or unsettled
abbrev pub SaysNoMore : AuditVerdict → Verdict → Type 0
SaysNoMore verdict by_proof = (by_proof ≡ Unsettled) ⊎ (by_proof ≡ without_entries verdict)

-- the answer has a verdict for each rule of the report, which is the report's, or unsettled
pub record HasNoMoreVerdictsThan (report : AuditReport) (checked : Answer) : Type 0 where
  pub verdicts : List Verdict
  pub less : AllZip SaysNoMore report.verdicts verdicts
  pub told : checked ≡ check_answer report.rules verdicts

-- Whoever made the proof, and whatever lines it lacks: where the files give an audit a report, and
-- `check` isn't refused, `check` says of each rule what the audit says, or that it is unsettled.
abbrev pub ChecksSayNoMore : Type 0
ChecksSayNoMore =
    (roster rules proof : List ℕ) (logs : List (List ℕ)) (roster_file rules_file proof_file : Option (List ℕ))
    (log_files : List (Option (List ℕ))) (checked : Answer) (report : AuditReport) →
    GivesReport roster (source_named rules) logs
    (files_read roster_file (source_named rules) rules_file log_files) (Ok report) →
    IsCheckOver roster rules proof logs
    (files_read roster_file (source_named rules) rules_file (log_files ++ proof_file ∷ [])) checked →
    IsOfReport checked.status → HasNoMoreVerdictsThan report checked
