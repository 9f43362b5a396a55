use Rattle.entry_graph.proofs.Imports.{take, ArePlaces}
use Rattle.entry_graph.proofs.links.places_of.Given as goal

-- the places of the survivors so far
abbrev pub invariant-loop-place : goal.invariant-loop-place
invariant-loop-place g l = ArePlaces g.T.Knot.node (take l.place l.survivors) l.places
