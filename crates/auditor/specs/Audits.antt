-- What files give an auditor: a report, or the first refusal.
use Rattle.std.specs.Prelude.{◌≡◌, ◌⊎◌, ℕ, List, [], ◌∷◌, ◌++◌, map, codes, Option, Result, Ok, Err}
use Rattle.roster.specs.declared.post.Post.{Post}
use Rattle.log_files.specs.Logs.{LogRead}
use Rattle.entry_format.specs.SealedEntry.{SealedEntry}
use Rattle.entry_graph.specs.EntryGraph.{EntryGraph}
use Rattle.precedence.specs.Graph.{Graph}
use Rattle.rule_language.specs.declared.row.Row.{Row}
use Rattle.rule_language.specs.Trees.{RuleTree}
use Rattle.rule_language.specs.Standard.{standard_rules}
use Rattle.rule_engine.specs.declared.verdict.Verdict.{Verdict}
use Rattle.evidence.specs.Refusal.{Refusal, refused}
use Rattle.evidence.specs.RosterFile.{GivesRoster}
use Rattle.evidence.specs.Logs.{GivesLogs}
use Rattle.evidence.specs.Graphs.{entries_of, GivesGraph}
use Rattle.survivor_rows.specs.Rows.{row_of}
use Rattle.rule_engine.specs.Judged.{AreJudged, IsFirstTooWide}
use Rattle.auditor.specs.Nodes.{nodes_of}
use Rattle.auditor.specs.Report.{AuditReport, report_on}
use Rattle.auditor.specs.Sources.{RuleSource, standard, in_file, source_word, rule_files, GivesRules}

-- a step, and then the next one with what it found; the first refusal ends it
abbrev pub AndThen : {A B : Type 0} → (Result A Refusal → Type 0) → (A → Result B Refusal → Type 0)
    → Result B Refusal → Type 0
AndThen {A} First Next answer =
    ((found : A) × First (Ok found) × Next found answer)
    ⊎ ((refusal : Refusal) × First (Err refusal) × (answer ≡ Err refusal))

-- a step on the first file, and then the next one with what it found and the other files; the first
-- refusal ends it
abbrev pub FileThen : {A B : Type 0} → (Option (List ℕ) → Result A Refusal → Type 0)
    → (A → List (Option (List ℕ)) → Result B Refusal → Type 0) → List (Option (List ℕ)) → Result B Refusal → Type 0
FileThen First Next (file ∷ files) answer = AndThen (First file) (λ found. Next found files) answer
FileThen First Next [] answer = ⊥

-- the rules, which are the standard ones or those of the first file, and then the next step with
-- them
abbrev pub RulesThen : {B : Type 0} → RuleSource → (List RuleTree → List (Option (List ℕ)) → Result B Refusal → Type 0)
    → List (Option (List ℕ)) → Result B Refusal → Type 0
RulesThen standard Next = Next standard_rules
RulesThen (in_file name) Next = FileThen (GivesRules name) Next

-- what rules give over survivors: a verdict for each, or the refusal of the first that is too wide
abbrev pub GivesVerdicts : RuleSource → List Row → Graph → List RuleTree → Result (List Verdict) Refusal → Type 0
GivesVerdicts source rows graph rules (Ok verdicts) = AreJudged rows graph rules verdicts
GivesVerdicts source rows graph rules (Err refusal) =
    (place : ℕ) × IsFirstTooWide rows rules place × (refusal ≡ refused (source_word source) place (codes "TooWide"))

-- what a graph gives with the machines, the rules, and the logs that it is of: the verdicts, and so
-- the report
abbrev pub WithGraph : List Post → RuleSource → List RuleTree → List (List ℕ) → List LogRead → EntryGraph SealedEntry
    → Result AuditReport Refusal → Type 0
WithGraph machines source rules names logs graph =
    AndThen (GivesVerdicts source (map (row_of machines) graph.survivors) (nodes_of graph) rules)
    (λ verdicts answer. answer ≡ Ok (report_on machines names logs graph rules verdicts))

-- what logs give with the machines and the rules: their graph, and what it gives
abbrev pub WithLogs : List Post → RuleSource → List RuleTree → List (List ℕ) → List LogRead
    → Result AuditReport Refusal → Type 0
WithLogs machines source rules names logs =
    AndThen (GivesGraph (entries_of logs)) (WithGraph machines source rules names logs)

-- the files that an audit reads, in order
abbrev pub audit_files : List ℕ → RuleSource → List (List ℕ) → List (List ℕ)
audit_files roster source logs = roster ∷ (rule_files source ++ logs)

-- what they give: the roster, the rules, the logs, the graph of the entries that these keep, and a
-- verdict for each rule, of which the report is made; or the first refusal
abbrev pub GivesReport : List ℕ → RuleSource → List (List ℕ) → List (Option (List ℕ))
    → Result AuditReport Refusal → Type 0
GivesReport roster source names =
    FileThen (GivesRoster roster) (λ read. RulesThen source (λ rules files.
    AndThen (GivesLogs read.roster.machines read.election names files) (λ logs.
    AndThen (GivesGraph (entries_of logs)) (λ graph.
    AndThen (GivesVerdicts source (map (row_of read.roster.machines) graph.survivors) (nodes_of graph) rules)
    (λ verdicts answer. answer ≡ Ok (report_on read.roster.machines names logs graph rules verdicts))))))
