-- What an audit with the standard rules says of what is left of an honest place.
use Rattle.std.specs.Prelude.{◌≡◌, ◌≢◌, ℕ, false, List, [], map, length, Option}
use Rattle.std.specs.List.{Contains}
use Rattle.entry_format.specs.SealedEntry.{SealedEntry}
use Rattle.entry_order.specs.World.{World}
use Rattle.log_files.specs.declared.plain_log.End.TheVariants.{Clean}
use Rattle.log_files.specs.Logs.{LogRead}
use Rattle.rule_language.specs.Trees.{RuleTree}
use Rattle.rule_language.specs.Standard.{standard_rules}
use Rattle.rule_engine.specs.declared.verdict.Verdict.{Verdict}
use Rattle.rule_engine.specs.declared.verdict.Verdict.TheVariants as verdict
use Rattle.auditor.specs.declared.outcome.Outcome.TheVariants as outcome
use Rattle.auditor.specs.Report.{AuditReport}
use Rattle.auditor.specs.Outcomes.{is_broken, outcome_of}
use Rattle.honest_places.specs.Places.{AreWholeFilesOf}

-- The rules are the standard ones, with a verdict for each. None is broken, and the report doesn't
-- come to that either. One is unsettled only where there is a gap.
pub record SaysNoneBroken (report : AuditReport) : Type 0 where
  pub rules : report.rules ≡ standard_rules
  pub one_each : length report.verdicts ≡ length standard_rules
  pub verdicts : (answer : Verdict) → Contains report.verdicts answer → is_broken answer ≡ false
  pub unsettled : Contains report.verdicts verdict.Unsettled → report.graph.gaps ≢ []
  pub outcome : outcome_of report ≢ outcome.Broken

-- each of the logs ends after a whole record
abbrev pub EndClean : List LogRead → Type 0
EndClean logs = (log : LogRead) → Contains logs log → log.end ≡ Clean

-- Each standard rule is kept, and there is no gap. Each log ends after a whole record where each
-- file is whole. Where each log ends so, the report comes to Kept, and else to findings.
pub record SaysAllKept (w : World SealedEntry) (files : List (Option (List ℕ))) (report : AuditReport) : Type 0 where
  pub rules : report.rules ≡ standard_rules
  pub verdicts : report.verdicts ≡ map (λ (rule : RuleTree). verdict.Kept) standard_rules
  pub no_gap : report.graph.gaps ≡ []
  pub clean : AreWholeFilesOf w files → EndClean report.logs
  pub nothing : EndClean report.logs → outcome_of report ≡ outcome.Kept
  pub torn : ¬ EndClean report.logs → outcome_of report ≡ outcome.Findings
