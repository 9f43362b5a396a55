-- What is answered for what is read.
use Rattle.evidence.specs.declared.fault.InputFault.TheVariants as audit
use Rattle.command_line.specs.declared.status.Status.TheVariants as status
use Rattle.auditor.specs.{Audits.audit_files, Audits.GivesReport, Outcomes.outcome_of, Report.AuditReport}
use Rattle.auditor.specs.{Report.report_of, Report.ReportParts, Sources.RuleSource}
use Rattle.auditorium_view.specs.{Shown.IsViewedBy, View.view_answer, ViewWords.ViewRequest}
use Rattle.command_line.proofs.Faults.{IsAnswerOfFault, or_answered, or_refused}
use Rattle.command_line.proofs.ReportStatuses.{not_absent}
use Rattle.command_line.specs.{Lines.Answer, Reports.source_named, declared.answer.Fault.Fault}
use Rattle.command_line.specs.declared.answer.Fault.TheVariants.{Memory, ReadFault}
use Rattle.evidence.specs.{Reading.IsReadFrom, Refusal.Refusal, declared.fault.InputFault.InputFault}
use Rattle.hall_outside.specs.declared.stores.Store.{Ghosts as StoreGhosts}
use Rattle.std.proofs.Common.{ap, List, Option, Some, subst, sym, ℕ, ◌↔◌, ◌∙◌, ◌≡◌, ◌≢◌}
use Rattle.std.specs.Prelude.{Err, IfErr, IfOk, Ok, Result}

module _ {S : Type 0} (of : StoreGhosts S) (digests : List (Option (List ℕ))) (request : ViewRequest)
    (old new : S) where
  -- the files that are read where the rules come from this source, and what they give
  abbrev names : List (List ℕ)
  names = audit_files request.roster (source_named request.rules) request.logs

  abbrev Gives : List (Option (List ℕ)) → Result AuditReport Refusal → Type 0
  Gives = GivesReport request.roster (source_named request.rules) request.logs

  -- what is shown of a report
  abbrev IsFor : AuditReport → Answer → Type 0
  IsFor report answer = answer ≡ view_answer digests request report

  -- what is read for the request, where the rules come from this source
  abbrev IsReadBy : RuleSource → Result ReportParts InputFault → Type 0
  IsReadBy source audited =
      IsReadFrom of report_of (audit_files request.roster source request.logs)
      (GivesReport request.roster source request.logs) old audited new

  -- a refused reading is answered
  pub refused_by : (source : RuleSource) (fault : InputFault) (result : Result Answer Fault) →
      source ≡ source_named request.rules → IsReadBy source (Err fault) → IfOk result (IsAnswerOfFault fault) →
      IfErr result (λ why. (why ≡ ReadFault) ↔ (fault ≡ audit.ReadFault)) →
      IsViewedBy of digests (Some request) old result new
  refused_by source fault result same given =
      or_refused of report_of names Gives IsFor old new fault result (subst (λ s. IsReadBy s (Err fault)) same given)

  -- what is shown of a report isn't that a file is absent
  is_other : (report : AuditReport) (result : Result Answer Fault) → IfOk result (IsFor report) →
      IfOk result (λ answer. answer.status ≢ status.Absent)
  is_other report (Ok answer) is =
      λ e. not_absent (outcome_of report) (sym (ap (λ (a : Answer). a.status) is) ∙ e)
  is_other report (Err fault) is = tt

  -- a report is answered by what is shown of it
  pub found_by : (source : RuleSource) (report : ReportParts) (result : Result Answer Fault) →
      source ≡ source_named request.rules → IsReadBy source (Ok report) →
      IfOk result (λ answer. answer ≡ view_answer digests request (report_of report)) →
      IfErr result (λ fault. fault ≡ Memory) → IsViewedBy of digests (Some request) old result new
  found_by source report result same given told =
      or_answered of report_of names Gives IsFor old new report result
      (subst (λ s. IsReadBy s (Ok report)) same given) told (is_other (report_of report) result told)
