-- What is answered of given entries.
use Rattle.std.specs.Prelude.{ℕ, ◌<◌, ◌≤◌, List, length, Result, Ok, Err}
use Rattle.entry_order.specs.Node.{Node}
use Rattle.entry_graph.specs.declared.fault.GraphFault.{GraphFault}
use Rattle.entry_graph.specs.declared.fault.GraphFault.TheVariants.{Collision, TooMany, Memory}
use Rattle.entry_graph.specs.Given.{distinct, HasNoCollision, IsCollision}
use Rattle.entry_graph.specs.EntryGraph.{EntryGraph, IsGraphOfGiven}

-- the graph of the distinct entries, or the first fault that applies
abbrev pub IsGraphAnswer : {T : Type 0} → (T → Node) → (T → List ℕ) → List T
    → Result (EntryGraph T) (GraphFault T) → Type 0
IsGraphAnswer node text given (Ok graph) =
    HasNoCollision node text given × (length (distinct node given) ≤ 16384)
    × IsGraphOfGiven node (distinct node given) graph
IsGraphAnswer node text given (Err (Collision e f)) = IsCollision node text given e f
IsGraphAnswer node text given (Err TooMany) =
    HasNoCollision node text given × (16384 < length (distinct node given))
IsGraphAnswer node text given (Err Memory) = Unit {0}
