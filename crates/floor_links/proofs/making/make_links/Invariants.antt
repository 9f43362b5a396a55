use Rattle.floor_links.proofs.making.make_links.Given as goal
use Rattle.floor_links.proofs.{Imports.AreNewRows, Makings.AreEmpty, Makings.lists_of}

-- an empty list for each receiver so far
abbrev pub invariant-loop-to : goal.invariant-loop-to
invariant-loop-to l = AreEmpty l._to (lists_of l.inns.items)

-- the links of the senders below `from`
abbrev pub invariant-loop-from : goal.invariant-loop-from
invariant-loop-from l =
    AreNewRows l.from l.count l.capacity (lists_of l.rows.items) (lists_of l.outs.items) (lists_of l.inns.items)
