use Rattle.entry_graph.proofs.Imports.{◌≡◌, take, links_of}
use Rattle.entry_graph.proofs.links.links_of.Given as goal

-- the links of the survivors so far
abbrev pub invariant-loop-survivor : goal.invariant-loop-survivor
invariant-loop-survivor g l =
    l.links.items ≡ links_of g.T.Knot.node l.places (take l.survivor-index l.survivors)
