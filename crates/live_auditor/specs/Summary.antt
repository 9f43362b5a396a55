-- What an auditor says of the entries so far.
use Rattle.std.specs.Prelude.{◌≡◌, ℕ, List, length, map, Ok}
use Rattle.entry_format.specs.SealedEntry.{SealedEntry}
use Rattle.entry_graph.specs.EntryGraph.{EntryGraph}
use Rattle.evidence.specs.Graphs.{IsSealedGraph}
use Rattle.roster.specs.declared.post.Post.{Post}
use Rattle.rule_language.specs.Trees.{RuleTree}
use Rattle.rule_engine.specs.declared.verdict.Verdict.{Verdict}
use Rattle.rule_engine.specs.Judged.{AreJudged}
use Rattle.auditor.specs.Nodes.{nodes_of}
use Rattle.survivor_rows.specs.Rows.{row_of}

-- how many entries survive, the gaps, the strays, the forks, and a verdict on each rule
pub record Summary : Type 0 where
  pub survivors : ℕ
  pub gaps : List (List ℕ)
  pub strays : List (List ℕ)
  pub forks : List (ℕ × ℕ)
  pub verdicts : List Verdict

-- The summary is that of these entries: it says what their graph has, and each verdict is that of
-- its rule by the rows of all survivors and their graph (Querifier, SADFE 2008). It doesn't depend
-- on how the entries came.
pub record After (machines : List Post) (rules : List RuleTree) (entries : List SealedEntry)
    (summary : Summary) : Type 0 where
  pub graph : EntryGraph SealedEntry
  pub graphed : IsSealedGraph entries (Ok graph)
  pub survivors : summary.survivors ≡ length graph.survivors
  pub gaps : summary.gaps ≡ graph.gaps
  pub strays : summary.strays ≡ graph.strays
  pub forks : summary.forks ≡ graph.forks
  pub judged : AreJudged (map (row_of machines) graph.survivors) (nodes_of graph) rules
      summary.verdicts
