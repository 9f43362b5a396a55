-- What an audit reports.
use Rattle.std.specs.Prelude.{◌≡◌, ℕ, List, length, map, Ok}
use Rattle.roster.specs.declared.post.Post.{Post}
use Rattle.log_files.specs.Logs.{LogRead}
use Rattle.entry_format.specs.SealedEntry.{SealedEntry}
use Rattle.entry_graph.specs.EntryGraph.{EntryGraph}
use Rattle.rule_language.specs.declared.formula.Rule.{Rule}
use Rattle.rule_language.specs.Forms.{rule_tree}
use Rattle.rule_language.specs.Trees.{RuleTree}
use Rattle.rule_engine.specs.declared.verdict.Verdict.{Verdict}
use Rattle.evidence.specs.Graphs.{entries_of, GivesGraph}
use Rattle.survivor_rows.specs.Rows.{HaveMakers, row_of}
use Rattle.rule_engine.specs.Judged.{AreJudged}
use Rattle.auditor.specs.Nodes.{nodes_of}

-- the machines of the roster, the logs with their names, the graph of their entries, and the rules
-- with their verdicts
pub record AuditReport : Type 0 where
  pub machines : List Post
  pub files : List (List ℕ)
  pub logs : List LogRead
  pub graph : EntryGraph SealedEntry
  pub rules : List RuleTree
  pub verdicts : List Verdict

-- the report of these
abbrev pub report_on : List Post → List (List ℕ) → List LogRead → EntryGraph SealedEntry → List RuleTree
    → List Verdict → AuditReport
report_on machines files logs graph rules verdicts = record {
  machines = machines;
  files = files;
  logs = logs;
  graph = graph;
  rules = rules;
  verdicts = verdicts;
}

-- the parts of a report, with the rules as they were read
pub record ReportParts : Type 0 where
  pub machines : List Post
  pub files : List (List ℕ)
  pub logs : List LogRead
  pub graph : EntryGraph SealedEntry
  pub rules : List Rule
  pub verdicts : List Verdict

-- the parts of a report, from its lists
abbrev pub parts_of : List Post → List (List ℕ) → List LogRead → EntryGraph SealedEntry → List Rule → List Verdict
    → ReportParts
parts_of machines files logs graph rules verdicts = record {
  machines = machines;
  files = files;
  logs = logs;
  graph = graph;
  rules = rules;
  verdicts = verdicts;
}

-- the report that has these parts
abbrev pub report_of : ReportParts → AuditReport
report_of parts =
    report_on parts.machines parts.files parts.logs parts.graph (map rule_tree parts.rules) parts.verdicts

-- What holds of each report: there is a log for each name, its graph is that of the entries that
-- the logs keep, which are of the roster's machines, and each verdict is that of its rule by the
-- survivors' rows and their graph.
pub record IsReport (report : AuditReport) : Type 0 where
  pub a_log_each : length report.files ≡ length report.logs
  pub makers : HaveMakers report.machines report.graph.survivors
  pub graphed : GivesGraph (entries_of report.logs) (Ok report.graph)
  pub judged : AreJudged (map (row_of report.machines) report.graph.survivors) (nodes_of report.graph) report.rules
      report.verdicts
