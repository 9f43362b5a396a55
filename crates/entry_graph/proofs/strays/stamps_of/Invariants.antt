use Rattle.entry_graph.proofs.Imports.{take, AreStamps}
use Rattle.entry_graph.proofs.strays.stamps_of.Given as goal

-- the stamps of the entries so far
abbrev pub invariant-loop-entry : goal.invariant-loop-entry
invariant-loop-entry g l = AreStamps g.T.Knot.node (take l.entry-index l.given) l.stamps
