-- What is kept of the survivors, beside what is said of them.
use Rattle.std.specs.Prelude.{◌≡◌, ℕ, ◌≤◌, ◌==◌, not, All, List, length, map}
use Rattle.entry_format.specs.Nodes.{node_of_sealed}
use Rattle.entry_order.specs.Naming.{Distinct}
use Rattle.entry_format.specs.SealedEntry.{SealedEntry}
use Rattle.entry_graph.specs.EntryGraph.{EntryGraph, IsGraphOfGiven, Links, parents_of, ragged_of}
use Rattle.precedence.specs.Graph.{Graph}
use Rattle.roster.specs.declared.post.Post.{Post}
use Rattle.rule_language.specs.declared.formula.Rule.{Rule}
use Rattle.rule_language.specs.declared.row.Row.{Row}
use Rattle.survivor_rows.specs.Rows.{row_of}
use Rattle.rule_language.specs.Trees.{RuleTree}
use Rattle.live_auditor.specs.Live.{LiveState, IsLive, IsOfMachine, max_added}
use Rattle.live_auditor.specs.Summary.{Summary, After}

-- the digests of the survivors, their rows, and what each names
pub record SurvivorsKept : Type 0 where
  pub digests : List (List ℕ)
  pub rows : List Row
  pub links : List Links

-- the digests, rows and links that are kept are those of the graph's survivors
pub record AreSurvivorsOf (machines : List Post) (graph : EntryGraph SealedEntry)
    (kept : SurvivorsKept) : Type 0 where
  pub digests : kept.digests ≡ map (λ (e : SealedEntry). e.digest) graph.survivors
  pub rows : kept.rows ≡ map (row_of machines) graph.survivors
  pub links : kept.links ≡ graph.links

-- the graph is that of the entries, of which no two have one digest, with these gaps and survivors
pub record IsGraphed (machines : List Post) (given : List SealedEntry) (graph : EntryGraph SealedEntry)
    (gaps : List (List ℕ)) (kept : SurvivorsKept) : Type 0 where
  pub apart : Distinct node_of_sealed given
  pub graphed : IsGraphOfGiven node_of_sealed given graph
  pub are_gaps : gaps ≡ graph.gaps
  pub survivors : AreSurvivorsOf machines graph kept

-- the summary is that of the entries, and these are the survivors
pub record IsSummed (machines : List Post) (rules : List RuleTree) (entries : List SealedEntry)
    (summary : Summary) (kept : SurvivorsKept) : Type 0 where
  pub after : After machines rules entries summary
  pub survivors : AreSurvivorsOf machines after.graph kept

-- at most 1,024 entries, of the machines; no two have one digest
pub record AreGiven (machines : List Post) (entries : List SealedEntry) : Type 0 where
  pub of_machines : All (IsOfMachine machines) entries
  pub few : length entries ≤ max_added
  pub apart : Distinct node_of_sealed entries

-- an audit of these
abbrev pub live_of : List Post → List Rule → List SealedEntry → Summary → LiveState
live_of machines rules added summary = record {
  machines = machines;
  rules = rules;
  added = added;
  summary = summary;
}

-- what always holds of an audit and of what is kept of its survivors
pub record IsKept (state : LiveState) (kept : SurvivorsKept) : Type 0 where
  pub live : IsLive state
  pub survivors : AreSurvivorsOf state.machines live.after.graph kept

-- what one names that names these survivors, and these digests that none of them has
abbrev pub link_to : List ℕ → List (List ℕ) → Links
link_to parents missing = record { parents = parents; ragged = not (length missing == 0) }

-- the graph of survivors with these links
abbrev pub nodes_by : List Links → Graph
nodes_by links = record {
  count = length links;
  parents = parents_of links;
  ragged = ragged_of links;
}
