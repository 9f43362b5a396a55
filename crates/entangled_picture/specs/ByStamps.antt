-- Columns go by stamps.
use Rattle.std.specs.Prelude.{◌≡◌, ◌↔◌, ℕ, ◌<◌, List, Some, slice_get}
use Rattle.entry_format.specs.SealedEntry.{SealedEntry}
use Rattle.entry_format.specs.Nodes.{node_of_sealed}
use Rattle.entry_graph.specs.EntryGraph.{EntryGraph, IsEntryGraph}
use Rattle.rule_engine.specs.declared.verdict.Verdict.{Verdict}
use Rattle.entangled_picture.specs.declared.shape.Spot.{Spot}
use Rattle.entangled_picture.specs.declared.placed.Placed.{Placed}
use Rattle.entangled_picture.specs.Places.{placed_of}

-- of two survivors that are drawn one is further right if and only if its stamp is greater
abbrev pub GoByStamps : List Placed → Type 0
GoByStamps placed =
    (i j : ℕ) (p q : Placed) (a b : Spot) → slice_get placed i ≡ Some p → slice_get placed j ≡ Some q →
    p.at ≡ Some a → q.at ≡ Some b → (a.column < b.column) ↔ (p.seen.stamp < q.seen.stamp)

-- the law that so it is in the picture of every graph
abbrev pub ColumnsGoByStamps : Type 0
ColumnsGoByStamps =
    (graph : EntryGraph SealedEntry) (verdicts : List Verdict) → IsEntryGraph node_of_sealed graph →
    GoByStamps (placed_of graph verdicts)
