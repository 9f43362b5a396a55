use Rattle.floor_links.proofs.making.make_row.Given as goal
use Rattle.floor_links.proofs.{Imports.IsRowBelow, Makings.lists_of}

-- the links to the receivers below `to`
abbrev pub invariant-loop-to : goal.invariant-loop-to
invariant-loop-to l =
    IsRowBelow l.from l.capacity l.to l.row.items l.outs.items (lists_of l.fn.inns.items) (lists_of l.inns.items)
