-- What an audit reads before the logs. Once it has begun, whatever the logs give from there on is
-- what the audit gives of all its files; and a fault before the logs is the audit's.
use Rattle.std.specs.Prelude.{ℕ, List, ◌++◌, map, Option, Result, Ok, Err}
use Rattle.std.specs.declared.vec.Vec.{Vec}
use Rattle.std.specs.declared.alloc.Global.{Global}
use Rattle.hall_outside.specs.declared.stores.Store.{Ghosts as StoreGhosts}
use Rattle.log_files.specs.Logs.{LogRead}
use Rattle.rule_language.specs.Forms.{rule_tree}
use Rattle.rule_language.specs.Trees.{RuleTree}
use Rattle.evidence.specs.declared.fault.InputFault.{InputFault}
use Rattle.evidence.specs.declared.roster_file.RosterRead.{RosterRead}
use Rattle.evidence.specs.Logs.{GivesLogs}
use Rattle.evidence.specs.Refusal.{Refusal}
use Rattle.evidence.specs.Reading.{IsReadFrom}
use Rattle.auditor.specs.declared.auditing.Begun.{Begun}
use Rattle.auditor.specs.Report.{AuditReport, ReportParts, report_of}
use Rattle.auditor.specs.Sources.{RuleSource, rule_files}
use Rattle.auditor.specs.Audits.{AndThen, RulesThen, WithLogs, audit_files, GivesReport}

-- what the files of logs give with the roster and the rules: the end of what all files give
abbrev pub WithRules : RosterRead → RuleSource → List RuleTree → List (List ℕ) → List (Option (List ℕ))
    → Result AuditReport Refusal → Type 0
WithRules read source rules names files =
    AndThen (GivesLogs read.roster.machines read.election names files)
    (WithLogs read.roster.machines source rules names)

-- what the file of the rules, if there is one, and those of the logs give with a roster
abbrev pub WithRoster : RosterRead → RuleSource → List (List ℕ) → List (Option (List ℕ))
    → Result AuditReport Refusal → Type 0
WithRoster read source names = RulesThen source (λ rules files. WithRules read source rules names files)

module _ {S : Type 0} (of : StoreGhosts S) where
  -- the logs of these names were read by the roster
  abbrev pub AreLogsOf : Begun → List (List ℕ) → S → Result (Vec LogRead Global) InputFault → S
      → Type 0
  AreLogsOf begun names =
      IsReadFrom of (λ logs. logs.items) names (GivesLogs begun.read.roster.machines begun.read.election names)

  -- this is what they give by the rules
  abbrev pub IsEndOf : Begun → RuleSource → List (List ℕ) → S → Result ReportParts InputFault → S
      → Type 0
  IsEndOf begun source names =
      IsReadFrom of report_of names (WithRules begun.read source (map rule_tree begun.rules.items) names)

  -- the rules are read after the roster
  abbrev pub HasRules : RosterRead → RuleSource → S → Result Begun InputFault → S → Type 0
  HasRules read source old (Ok begun) mid =
      (names : List (List ℕ)) (result : Result ReportParts InputFault) (new : S) →
      IsEndOf begun source names mid result new →
      IsReadFrom of report_of (rule_files source ++ names) (WithRoster read source names) old result new
  HasRules read source old (Err fault) new =
      (names : List (List ℕ)) →
      IsReadFrom of report_of (rule_files source ++ names) (WithRoster read source names) old (Err fault) new

  -- the roster and the rules are read
  abbrev pub HasBegun : List ℕ → RuleSource → S → Result Begun InputFault → S → Type 0
  HasBegun roster source old (Ok begun) mid =
      (names : List (List ℕ)) (result : Result ReportParts InputFault) (new : S) →
      IsEndOf begun source names mid result new →
      IsReadFrom of report_of (audit_files roster source names) (GivesReport roster source names) old result new
  HasBegun roster source old (Err fault) new =
      (names : List (List ℕ)) →
      IsReadFrom of report_of (audit_files roster source names) (GivesReport roster source names) old (Err fault) new
