-- The answers of reports.
use Rattle.std.specs.Prelude.{List, [], ◌∷◌}
use Rattle.auditor.specs.Report.{AuditReport}
use Rattle.auditor.specs.Outcomes.{outcome_of}
use Rattle.auditor.specs.ReportText.{report_text}
use Rattle.command_line.specs.declared.status.Status.{Status}
use Rattle.command_line.specs.declared.status.Status.TheVariants as status
use Rattle.command_line.specs.Lines.{Answer}
use Rattle.command_line.specs.Reports.{status_by}

-- the statuses of a report, and of a refusal
abbrev pub report_statuses : List Status
report_statuses =
    status.Done ∷ status.Findings ∷ status.Unsettled ∷ status.Broken ∷ status.Refused ∷ status.Absent ∷ []

-- the answer of a report
abbrev pub report_answer : AuditReport → Answer
report_answer report = record {
  status = status_by (outcome_of report);
  files = [];
  ahead = 0;
  output = report_text report;
}
