-- What is kept of the survivors, as the code has it.
use Rattle.std.specs.Prelude.{◌≡◌, List, length, map}
use Rattle.entry_format.specs.SealedEntry.{SealedEntry}
use Rattle.entry_graph.specs.EntryGraph.{EntryGraph}
use Rattle.roster.specs.declared.post.Post.{Post}
use Rattle.rule_language.specs.Trees.{RuleTree}
use Rattle.rule_engine.specs.Judged.{AreJudged}
use Rattle.auditor.specs.Nodes.{nodes_of}
use Rattle.survivor_rows.specs.Rows.{row_of}
use Rattle.live_auditor.specs.declared.summary.Summed.{Summed}
use Rattle.live_auditor.specs.declared.survivors.Survivors.{Survivors}
use Rattle.live_auditor.specs.inside.Kept.{SurvivorsKept, AreSurvivorsOf}

-- the lists
abbrev pub kept_of : Survivors → SurvivorsKept
kept_of survivors = record {
  digests = survivors.digests.items;
  rows = survivors.rows.items;
  links = survivors.links.items;
}

-- what is said and kept is read off this graph
pub record IsSummedBy (machines : List Post) (rules : List RuleTree)
    (graph : EntryGraph SealedEntry) (summed : Summed) : Type 0 where
  pub said : summed.summary ≡ record {
    survivors = length graph.survivors;
    gaps = graph.gaps;
    strays = graph.strays;
    forks = graph.forks;
    verdicts = summed.summary.verdicts;
  }
  pub judged : AreJudged (map (row_of machines) graph.survivors) (nodes_of graph) rules
      summed.summary.verdicts
  pub survivors : AreSurvivorsOf machines graph (kept_of summed.survivors)
