use Rattle.entry_graph.proofs.Imports.{◌≡◌, take, links_by, number_at}
use Rattle.entry_graph.proofs.links.links_at.Given as goal

-- the links by the names so far
abbrev pub invariant-loop-name : goal.invariant-loop-name
invariant-loop-name l =
    record { parents = l.parents.items; ragged = l.ragged }
    ≡ links_by (number_at l.places) (take l.name-index l.names)
