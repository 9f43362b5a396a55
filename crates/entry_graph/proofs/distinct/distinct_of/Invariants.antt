use Rattle.entry_graph.proofs.Imports.{◌≡◌, ◌++◌, distinct, HasNoCollision, HasNoDigestTwice, ArePlaces}
use Rattle.entry_graph.proofs.distinct.distinct_of.Given as goal

-- no two so far collide, the distinct ones are those so far, and the table has their places; the
-- rest are left
abbrev pub invariant-loop-entry : goal.invariant-loop-entry
invariant-loop-entry g l = record {
  no_collision : HasNoCollision g.T.Knot.node g.T.SignedText.text l.yielded;
  found : l.distinct.items ≡ distinct g.T.Knot.node l.yielded;
  single : HasNoDigestTwice g.T.Knot.node l.distinct.items;
  left : l.yielded ++ l.entry-iterator.rest.items ≡ l.fn.entries.items;
  places : ArePlaces g.T.Knot.node l.distinct.items l.places;
}
