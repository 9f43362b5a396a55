-- What files give `prove` and `check`, step by step.
use Rattle.std.specs.Prelude.{◌≡◌, ℕ, List, [], ◌∷◌, ◌++◌, map, Option, Result, Ok}
use Rattle.roster.specs.declared.post.Post.{Post}
use Rattle.entry_format.specs.SealedEntry.{SealedEntry}
use Rattle.log_files.specs.Logs.{LogRead}
use Rattle.entry_graph.specs.EntryGraph.{EntryGraph}
use Rattle.rule_language.specs.declared.row.Row.{Row}
use Rattle.rule_language.specs.Forms.{rule_tree}
use Rattle.rule_language.specs.Trees.{RuleTree}
use Rattle.audit_proof.specs.Lines.{Line}
use Rattle.evidence.specs.declared.roster_file.RosterRead.{RosterRead}
use Rattle.evidence.specs.Refusal.{Refusal}
use Rattle.evidence.specs.Logs.{GivesLogs}
use Rattle.evidence.specs.Graphs.{entries_of, GivesGraph}
use Rattle.survivor_rows.specs.Rows.{row_of}
use Rattle.rule_engine.specs.Judged.{IsFirstTooWide}
use Rattle.auditor.specs.Nodes.{nodes_of}
use Rattle.auditor.specs.Audits.{AndThen, RulesThen}
use Rattle.auditor.specs.Sources.{RuleSource}
use Rattle.log_commands.specs.declared.check.Checked.{Checked}
use Rattle.log_commands.specs.declared.check.Unchecked.{Unchecked}
use Rattle.log_commands.specs.declared.check.Unchecked.TheVariants.{TooWide, Memory}
use Rattle.log_commands.specs.ProofFile.{GivesProof}
use Rattle.log_commands.specs.Prove.{ProofMade, GivesText}
use Rattle.log_commands.specs.Check.{CheckReport, GivesChecked}

-- what logs give: the graph of the entries that they keep, and its text
abbrev pub ProvesLogs : List ℕ → List LogRead → Result ProofMade Refusal → Type 0
ProvesLogs proof logs =
    AndThen (GivesGraph (entries_of logs))
    (λ (graph : EntryGraph SealedEntry). GivesText proof (nodes_of graph))

-- what the files of logs give with the roster: the logs, and what they give
abbrev pub ProvesFiles : RosterRead → List ℕ → List (List ℕ) → List (Option (List ℕ)) →
    Result ProofMade Refusal → Type 0
ProvesFiles read proof names files =
    AndThen (GivesLogs read.roster.machines read.election names files) (ProvesLogs proof)

-- what the lines of a proof give with the machines, the rules and the graph
abbrev pub ChecksLines : List Post → RuleSource → List RuleTree → EntryGraph SealedEntry → List Line →
    Result CheckReport Refusal → Type 0
ChecksLines machines source rules graph lines =
    AndThen
    (GivesChecked source (map (row_of machines) graph.survivors) (nodes_of graph) lines rules)
    (λ verdicts answer. answer ≡ Ok (record {
      machines = machines;
      survivors = graph.survivors;
      rules = rules;
      verdicts = verdicts;
    }))

-- what a proof's file gives with the graph that it is for: its lines, and what they give
abbrev pub ChecksProof : List Post → RuleSource → List RuleTree → List ℕ → Option (List ℕ) →
    EntryGraph SealedEntry → Result CheckReport Refusal → Type 0
ChecksProof machines source rules proof file graph =
    AndThen (GivesProof proof (nodes_of graph) file) (ChecksLines machines source rules graph)

-- what logs and a proof's file give: the logs' graph, and what the file gives with it
abbrev pub ChecksLogs : List Post → RuleSource → List RuleTree → List ℕ → Option (List ℕ) →
    List LogRead → Result CheckReport Refusal → Type 0
ChecksLogs machines source rules proof file logs =
    AndThen (GivesGraph (entries_of logs)) (ChecksProof machines source rules proof file)

-- what the files of logs and a proof's file, the last, give with the roster and the rules
abbrev pub ChecksFiles : RosterRead → RuleSource → List RuleTree → List ℕ → List (List ℕ) →
    List (Option (List ℕ)) → Result CheckReport Refusal → Type 0
ChecksFiles read source rules proof names files answer =
    (of_logs : List (Option (List ℕ))) × (last : Option (List ℕ)) × (files ≡ of_logs ++ last ∷ [])
    × AndThen (GivesLogs read.roster.machines read.election names of_logs)
    (ChecksLogs read.roster.machines source rules proof last) answer

-- what the file of the rules, if there is one, gives with the roster and the other files
abbrev pub ChecksRules : RosterRead → RuleSource → List ℕ → List (List ℕ) → List (Option (List ℕ)) →
    Result CheckReport Refusal → Type 0
ChecksRules read source proof names =
    RulesThen source (λ rules files. ChecksFiles read source rules proof names files)

-- the report of what was checked
abbrev pub report_by : Checked → CheckReport
report_by checked = record {
  machines = checked.roster.machines;
  survivors = checked.graph.survivors;
  rules = map rule_tree checked.rules.items;
  verdicts = checked.verdicts.items;
}

-- why rules aren't checked: the first that is too wide is at this place, or memory ran out
abbrev pub IsUnchecked : List Row → List RuleTree → Unchecked → Type 0
IsUnchecked rows rules (TooWide place) = IsFirstTooWide rows rules place
IsUnchecked rows rules Memory = Unit {0}
