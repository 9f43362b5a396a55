-- What `watch` has in common with an audit and with itself over the logs in another order, and what it
-- says where the logs' files are left of an honest place.
use Rattle.std.specs.Prelude.{◌≡◌, ◌≢◌, ◌⊎◌, ℕ, ◌+◌, List, [], ◌∷◌, ◌++◌, length, map, codes, All, Option, Ok}
use Rattle.std.specs.Prelude.{count_by}
use Rattle.std.specs.List.Sorted.{IsPermutation}
use Rattle.entry_format.specs.Nodes.{node_of_sealed}
use Rattle.entry_order.specs.Naming.{Distinct}
use Rattle.entry_order.specs.World.{sent_in}
use Rattle.evidence.specs.Graphs.{entries_of}
use Rattle.auditor.specs.Audits.{GivesReport}
use Rattle.auditor.specs.Outcomes.{is_broken}
use Rattle.auditor.specs.Report.{AuditReport}
use Rattle.honest_places.specs.Places.{files_read}
use Rattle.live_auditor.specs.Summary.{Summary}
use Rattle.command_line.specs.declared.status.Status.TheVariants as status
use Rattle.honest_places.specs.EachPlace.{OnEachPlace}
use Rattle.command_line.specs.Lines.{Answer, refused_answer}
use Rattle.log_commands.specs.Audit.{IsAuditOf, IsAuditOver}
use Rattle.command_line.specs.Reports.{source_named}
use Rattle.command_line.specs.Reports.{IsOfReport}
use Rattle.log_commands.specs.Watch.{IsWatchOver, watch_line, watch_lines}

-- what a report says, as `watch` says it of entries
abbrev pub summary_of : AuditReport → Summary
summary_of report = record {
  survivors = length report.graph.survivors;
  gaps = report.graph.gaps;
  strays = report.graph.strays;
  forks = report.graph.forks;
  verdicts = report.verdicts;
}

-- The audit's answer is that of this report, the files' own, whose verdicts mean what they say, and
-- has the status of `watch`. Where an entry is kept, the last line of `watch` is what the report says
-- of all of them: so what it counts as unsettled is really open.
pub record AgreesWithAudit (roster rules : List ℕ) (logs : List (List ℕ))
    (files : List (Option (List ℕ))) (watched audited : Answer) : Type 0 where
  pub report : AuditReport
  pub given : GivesReport roster (source_named rules) logs files (Ok report)
  pub audit : IsAuditOf report audited
  pub status : watched.status ≡ audited.status
  pub last : entries_of report.logs ≢ [] → (earlier : List ℕ)
      × (watched.output
      ≡ earlier ++ watch_line (length (entries_of report.logs)) (summary_of report))

-- `watch` agrees with the audit over all files by which it isn't refused
abbrev pub WatchesAgreeWithAudits : Type 0
WatchesAgreeWithAudits =
    (roster rules : List ℕ) (logs : List (List ℕ)) (files : List (Option (List ℕ)))
    (watched audited : Answer) → IsWatchOver roster rules logs files watched →
    IsOfReport watched.status → IsAuditOver roster rules logs files audited →
    AgreesWithAudit roster rules logs files watched audited

-- n lines are printed, of which the last says this
abbrev pub PrintsLast : ℕ → Summary → Answer → Type 0
PrintsLast n summary watched =
    (earlier : List Summary) × (length earlier + 1 ≡ n)
    × (watched.output ≡ watch_lines 1 earlier ++ watch_line n summary)

-- the statuses are the same, and where the one prints something, so are the last lines
pub record EndAlike (watched other : Answer) : Type 0 where
  pub status : watched.status ≡ other.status
  pub last : watched.output ≢ [] →
      (n : ℕ) × (summary : Summary) × PrintsLast n summary watched × PrintsLast n summary other

-- the file of a log: its name, and its bytes where it is there
abbrev pub NamedLog : Type 0
NamedLog = List ℕ × Option (List ℕ)

-- the answer of `watch` for these files
abbrev pub IsWatchOfLogs : List ℕ → List ℕ → Option (List ℕ) → Option (List ℕ) →
    List NamedLog → Answer → Type 0
IsWatchOfLogs roster rules roster_file rules_file logs =
    IsWatchOver roster rules (map (λ (log : NamedLog). log.0) logs)
    (files_read roster_file (source_named rules) rules_file (map (λ (log : NamedLog). log.1) logs))

-- The law: the order of the logs decides how `watch` goes on, and not how it ends. Over the same logs
-- in another order, where it is refused in neither, it has the same status and the same last line.
abbrev pub OrdersOfLogsEndAlike : Type 0
OrdersOfLogsEndAlike =
    (roster rules : List ℕ) (roster_file rules_file : Option (List ℕ))
    (logs others : List NamedLog) (watched other : Answer) → IsPermutation logs others →
    IsWatchOfLogs roster rules roster_file rules_file logs watched →
    IsWatchOfLogs roster rules roster_file rules_file others other →
    IsOfReport watched.status → IsOfReport other.status → EndAlike watched other

-- no line says of a rule that it is broken, nor does the status
pub record BreaksNoRule (watched : Answer) : Type 0 where
  pub summaries : List Summary
  pub lines : watched.output ≡ watch_lines 1 summaries
  pub unbroken : All (λ (summary : Summary). count_by is_broken summary.verdicts ≡ 0) summaries
  pub status : watched.status ≢ status.Broken

-- The law: over what is left of an honest place, and where different entries have different
-- digests, `watch` by the standard rules is refused only because more than 1,024 different entries
-- are in the logs, and otherwise says of no rule that it is broken.
abbrev pub HonestWatchesBreakNoRule : Type 0
HonestWatchesBreakNoRule =
    (roster : Option (List ℕ)) (logs : List (Option (List ℕ))) →
    OnEachPlace (λ script w. Distinct node_of_sealed (sent_in w) → (name : List ℕ) (names : List (List ℕ))
    (watched : Answer) → IsWatchOver name (codes "standard") names (roster ∷ logs) watched →
    (watched ≡ refused_answer (codes "entries") 0 (codes "TooMany")) ⊎ BreaksNoRule watched) roster logs
