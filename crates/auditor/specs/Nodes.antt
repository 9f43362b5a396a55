-- The survivors of a graph as the nodes of one.
use Rattle.std.specs.Prelude.{length}
use Rattle.entry_graph.specs.EntryGraph.{EntryGraph, parents_of, ragged_of}
use Rattle.precedence.specs.Graph.{Graph}

-- the survivors as the nodes of a graph
abbrev pub nodes_of : {T : Type 0} → EntryGraph T → Graph
nodes_of graph = record {
  count = length graph.survivors;
  parents = parents_of graph.links;
  ragged = ragged_of graph.links;
}
