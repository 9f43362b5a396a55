-- What `audit` says where the logs' files are left of an honest place.
use Rattle.std.specs.Prelude.{◌≡◌, ◌⊎◌, ℕ, List, Option}
use Rattle.std.specs.List.{AllZip, Contains}
use Rattle.entry_format.specs.Nodes.{node_of_sealed}
use Rattle.entry_format.specs.SealedEntry.{SealedEntry}
use Rattle.entry_order.specs.Naming.{Distinct}
use Rattle.entry_order.specs.World.{World, sent_in}
use Rattle.election_script.specs.declared.script.Script.{Script}
use Rattle.evidence.specs.Refusal.{Refusal}
use Rattle.honest_places.specs.LeftFiles.{AreAllFilesOf}
use Rattle.rule_language.specs.Standard.{standard_rules}
use Rattle.rule_engine.specs.declared.verdict.Verdict.TheVariants as verdict
use Rattle.auditor.specs.Report.{AuditReport}
use Rattle.report_exactness.specs.ReportExact.{IsOpenFor}
use Rattle.auditor.specs.Sources.{RuleSource, standard}
use Rattle.honest_places.specs.ReportsKept.{SaysAllKept, SaysNoneBroken}
use Rattle.honest_places.specs.Places.{AreWholeFilesOf, files_read}
use Rattle.honest_places.specs.Refusals.{IsHonestRefusal}
use Rattle.honest_places.specs.Reports.{IsHonestReport}
use Rattle.command_line.specs.declared.status.Status.TheVariants as status
use Rattle.honest_places.specs.EachPlace.{OnEachPlace}
use Rattle.command_line.specs.Lines.{Answer, refusal_answer}
use Rattle.command_line.specs.Reports.{IsOfReport}
use Rattle.log_commands.specs.ReportAnswers.{report_answer}

-- The answer is that of a report on the script's machines and on these files, in which no line
-- accuses anybody: none is of a refused record, of a malformed end, of a break, of a stray or of a
-- fork. With the standard rules the report says of none that it is broken, and where the whole logs of
-- w are all among the files, of each that it is kept. Of each
-- standard rule, P3 too, that is unsettled nobody can say more by the same survivors.
pub record TellsHonestReport (script : Script) (w : World SealedEntry) (source : RuleSource) (names : List (List ℕ))
    (files : List (Option (List ℕ))) (answer : Answer) : Type 0 where
  pub report : AuditReport
  pub told : answer ≡ report_answer report
  pub honest : IsHonestReport script w names files report
  pub none_broken : source ≡ standard → SaysNoneBroken report
  pub all_kept : source ≡ standard → AreAllFilesOf w files → SaysAllKept w files report
  pub unsettled : AllZip
      (λ rule is. is ≡ verdict.Unsettled → Contains standard_rules rule → IsOpenFor (λ G. Unit {0}) report rule)
      report.rules report.verdicts

-- Where different entries of w have different digests, the answer is a report that accuses nobody; or,
-- never by the standard rules, a refusal because of the file of the rules, or because one of its
-- rules is too wide. By the standard rules, over all logs of w and where each of the files is a whole
-- log, there is nothing to report. A report over all logs of w, whole, shows that digests differ.
pub record IsAuditOfPlace (script : Script) (w : World SealedEntry) (source : RuleSource)
    (rules_file : Option (List ℕ)) (names : List (List ℕ)) (files : List (Option (List ℕ))) (answer : Answer)
    : Type 0 where
  pub honest : Distinct node_of_sealed (sent_in w) → TellsHonestReport script w source names files answer
      ⊎ ((refusal : Refusal) × IsHonestRefusal source rules_file refusal × (answer ≡ refusal_answer refusal))
  pub done : Distinct node_of_sealed (sent_in w) → source ≡ standard → AreAllFilesOf w files →
      AreWholeFilesOf w files → answer.status ≡ status.Done
  pub shown : AreAllFilesOf w files → IsOfReport answer.status → Distinct node_of_sealed (sent_in w)

-- the answer is right for each honest place that left the roster's file and the logs' files, where
-- the files are these and that of the rules, if they are in one
abbrev pub IsAuditOfPlaces : RuleSource → List (List ℕ) → List (Option (List ℕ)) → Answer → Type 0
IsAuditOfPlaces source names files answer =
    (roster rules_file : Option (List ℕ)) (logs : List (Option (List ℕ))) →
    files ≡ files_read roster source rules_file logs →
    OnEachPlace (λ script w. IsAuditOfPlace script w source rules_file names logs answer) roster logs
