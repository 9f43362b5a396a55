-- Entries of which no two have one digest.
use Rattle.std.specs.Prelude.{ℕ, ◌<◌, List, map}
use Rattle.std.specs.List.{Contains, IsDistinct}
use Rattle.std.specs.Str.{bytes_eq}
use Rattle.entry_order.specs.Node.{Node}
use Rattle.entry_order.specs.Naming.{Names}
use Rattle.entry_graph.specs.declared.fault.GraphFault.{GraphFault}
use Rattle.entry_graph.specs.declared.fault.GraphFault.TheVariants.{Collision, TooMany, Memory}
use Rattle.entry_graph.specs.Given.{IsCollision}

module _ {T : Type 0} (node : T → Node) where
  -- no two of the entries have one digest
  abbrev pub HasNoDigestTwice : List T → Type 0
  HasNoDigestTwice es = IsDistinct bytes_eq (map (λ e. (node e).digest) es)

  -- an entry has a higher stamp than each of the entries that it names
  abbrev pub NamesLower : List T → Type 0
  NamesLower es =
      (e f : T) → Contains es e → Contains es f → Names node e f → (node f).stamp < (node e).stamp

  -- the only fault except out of memory is a collision
  abbrev pub IsDistinctFault : (T → List ℕ) → List T → GraphFault T → Type 0
  IsDistinctFault text given (Collision e f) = IsCollision node text given e f
  IsDistinctFault text given TooMany = ⊥
  IsDistinctFault text given Memory = Unit {0}
