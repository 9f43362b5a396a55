-- The command `watch`.
use Rattle.std.specs.Prelude.{◌≡◌, ◌⊎◌, ℕ, ◌+◌, ◌<◌, ◌≤◌, List, [], ◌∷◌, ◌++◌, length, take, codes}
use Rattle.std.specs.Prelude.{slice_get, Option, Some, Result, Ok, Err, count_by}
use Rattle.std.specs.Fmt.{decimal}
use Rattle.roster.specs.declared.post.Post.{Post}
use Rattle.entry_format.specs.Nodes.{node_of_sealed}
use Rattle.entry_format.specs.SealedEntry.{SealedEntry}
use Rattle.entry_graph.specs.EntryGraph.{EntryGraph}
use Rattle.entry_graph.specs.Given.{distinct}
use Rattle.log_files.specs.Logs.{LogRead}
use Rattle.rule_language.specs.Trees.{RuleTree}
use Rattle.evidence.specs.Refusal.{Refusal, refused}
use Rattle.evidence.specs.RosterFile.{GivesRoster}
use Rattle.evidence.specs.Logs.{GivesLogs}
use Rattle.evidence.specs.Graphs.{entries_of, GivesGraph, IsSealedGraph}
use Rattle.log_files.specs.Lines.{line}
use Rattle.auditor.specs.Audits.{AndThen, FileThen, RulesThen, WithGraph, audit_files}
use Rattle.auditor.specs.Outcomes.{is_broken, is_unsettled, outcome_of}
use Rattle.auditor.specs.Report.{AuditReport}
use Rattle.auditor.specs.Sources.{RuleSource, source_word}
use Rattle.demonstration.specs.Shown.{is_kept}
use Rattle.live_auditor.specs.Adding.{IsTooWideOver}
use Rattle.live_auditor.specs.Live.{max_added}
use Rattle.live_auditor.specs.Summary.{Summary, After}
use Rattle.command_line.specs.declared.status.Status.TheVariants as status
use Rattle.command_line.specs.Lines.{Answer, OrRefused}
use Rattle.log_commands.specs.ReportAnswers.{report_statuses}
use Rattle.command_line.specs.Reports.{status_by}
use Rattle.command_line.specs.WordForms.{AreLogs}
use Rattle.command_line.specs.Reports.{source_named}
use Rattle.command_line.specs.CommandParts.{CommandParts}

-- what an audit goes on: the machines of the roster, the rules and the logs
pub record Evidence : Type 0 where
  pub machines : List Post
  pub rules : List RuleTree
  pub logs : List LogRead

-- what the files that an audit reads give: the roster, the rules and the logs, or the first refusal
abbrev pub GivesEvidence : List ℕ → RuleSource → List (List ℕ) → List (Option (List ℕ)) →
    Result Evidence Refusal → Type 0
GivesEvidence roster source names =
    FileThen (GivesRoster roster) (λ read. RulesThen source (λ rules files.
    AndThen (GivesLogs read.roster.machines read.election names files)
    (λ logs answer. answer ≡ Ok (record { machines = read.roster.machines; rules = rules; logs = logs }))))

-- at each place is the summary of the entries up to there: what an audit of them says
pub record AreSummaries (machines : List Post) (rules : List RuleTree) (entries : List SealedEntry)
    (summaries : List Summary) : Type 0 where
  pub one_each : length summaries ≡ length entries
  pub each : (n : ℕ) (summary : Summary) → slice_get summaries n ≡ Some summary →
      After machines rules (take (n + 1) entries) summary

-- the entries have a graph, and over its survivors no rule is too wide
pub record IsNarrowOver (machines : List Post) (rules : List RuleTree) (entries : List SealedEntry)
    : Type 0 where
  pub graph : EntryGraph SealedEntry
  pub graphed : IsSealedGraph entries (Ok graph)
  pub narrow : (place : ℕ) → ¬ IsTooWideOver machines rules entries place

-- over the survivors of all entries up to one some rule is too wide, of which the first has this
-- place, and over those of the entries up to any before it none is
pub record IsTooWideAfter (machines : List Post) (rules : List RuleTree)
    (entries : List SealedEntry) (place : ℕ) : Type 0 where
  pub before : ℕ
  pub within : before < length entries
  pub earlier : (n : ℕ) → n < before → IsNarrowOver machines rules (take (n + 1) entries)
  pub too_wide : IsTooWideOver machines rules (take (before + 1) entries) place

-- at most 1,024 of the entries are different
abbrev pub AreFewDistinct : List SealedEntry → Type 0
AreFewDistinct entries = length (distinct node_of_sealed entries) ≤ max_added

-- what entries give one after another: a summary each, or else the refusal of too many, or of the
-- first rule that is too wide after one of them
abbrev pub GivesSummaries : List Post → RuleSource → List RuleTree → List SealedEntry →
    Result (List Summary) Refusal → Type 0
GivesSummaries machines source rules entries (Ok summaries) =
    AreFewDistinct entries × AreSummaries machines rules entries summaries
GivesSummaries machines source rules entries (Err refusal) =
    ((¬ AreFewDistinct entries) × (refusal ≡ refused (codes "entries") 0 (codes "TooMany")))
    ⊎ (AreFewDistinct entries
    × ((place : ℕ) × IsTooWideAfter machines rules entries place
    × (refusal ≡ refused (source_word source) place (codes "TooWide"))))

-- the line of these numbers
abbrev pub numbers_line : ℕ → ℕ → ℕ → ℕ → ℕ → ℕ → List ℕ
numbers_line n survivors gaps kept broken unsettled =
    line (decimal n ++ codes " " ++ decimal survivors ++ codes " gaps " ++ decimal gaps
    ++ codes " kept " ++ decimal kept ++ codes " broken " ++ decimal broken
    ++ codes " unsettled " ++ decimal unsettled)

-- the line after the n-th entry, with what is said of them
abbrev pub watch_line : ℕ → Summary → List ℕ
watch_line n summary =
    numbers_line n summary.survivors (length summary.gaps) (count_by is_kept summary.verdicts)
    (count_by is_broken summary.verdicts) (count_by is_unsettled summary.verdicts)

-- a line for each summary, of which the first is that of n entries
abbrev pub watch_lines : ℕ → List Summary → List ℕ
watch_lines n [] = []
watch_lines n (summary ∷ summaries) = watch_line n summary ++ watch_lines (n + 1) summaries

-- the lines, with the status of an audit's report
abbrev pub watch_answer : List Summary → AuditReport → Answer
watch_answer summaries report = record {
  status = status_by (outcome_of report);
  files = [];
  ahead = 0;
  output = watch_lines 1 summaries;
}

-- what an audit's evidence gives: the lines, or the first refusal
abbrev pub Watches : RuleSource → List (List ℕ) → Evidence → Result Answer Refusal → Type 0
Watches source names evidence =
    AndThen (GivesGraph (entries_of evidence.logs))
    (λ graph. AndThen
    (GivesSummaries evidence.machines source evidence.rules (entries_of evidence.logs))
    (λ summaries. AndThen
    (WithGraph evidence.machines source evidence.rules names evidence.logs graph)
    (λ report answer. answer ≡ Ok (watch_answer summaries report))))

-- what files give
abbrev pub GivesWatch : List ℕ → RuleSource → List (List ℕ) → List (Option (List ℕ)) →
    Result Answer Refusal → Type 0
GivesWatch roster source names files =
    AndThen (GivesEvidence roster source names files) (Watches source names)

-- the answer for these files, or the first refusal
abbrev pub IsWatchOver : List ℕ → List ℕ → List (List ℕ) → List (Option (List ℕ)) → Answer → Type 0
IsWatchOver roster rules logs files answer =
    OrRefused (GivesWatch roster (source_named rules) logs files) (λ told other. other ≡ told) answer

-- `watch ROSTER RULES LOG..`; the word `standard` names rules that no file has
abbrev pub watch_parts : List ℕ → List ℕ → List (List ℕ) → CommandParts
watch_parts roster rules logs = record {
  words = codes "watch" ∷ roster ∷ rules ∷ logs;
  IsAllowed = AreLogs logs;
  files = audit_files roster (source_named rules) logs;
  IsAnswer = IsWatchOver roster rules logs;
  AreAccepted = λ files. (answer : Answer) × GivesWatch roster (source_named rules) logs files (Ok answer);
  statuses = report_statuses;
  absence = status.Absent;
}
