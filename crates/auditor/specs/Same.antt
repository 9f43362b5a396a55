-- How far two reports for the same files agree.
use Rattle.std.specs.Prelude.{◌≡◌}
use Rattle.std.specs.List.{AllZip}
use Rattle.rule_engine.specs.declared.verdict.Verdict.{Verdict}
use Rattle.rule_engine.specs.declared.verdict.Verdict.TheVariants.{Kept, Broken, Unsettled}
use Rattle.auditor.specs.Report.{AuditReport}
use Rattle.auditor.specs.Outcomes.{outcome_of}
use Rattle.auditor.specs.ReportText.{report_text}

-- two verdicts are the same, and name the same places
abbrev pub SameVerdict : Verdict → Verdict → Type 0
SameVerdict Kept Kept = Unit {0}
SameVerdict (Broken places) (Broken others) = places.items ≡ others.items
SameVerdict Unsettled Unsettled = Unit {0}
SameVerdict verdict other = ⊥

-- two reports have one text, come to the same, and are of one graph and of verdicts that say the same
pub record SameReport (report other : AuditReport) : Type 0 where
  pub text : report_text report ≡ report_text other
  pub outcome : outcome_of report ≡ outcome_of other
  pub graph : report.graph ≡ other.graph
  pub verdicts : AllZip SameVerdict report.verdicts other.verdicts
