use Rattle.machine_floor.proofs.finishing.finish_row.Given as goal
use Rattle.machine_floor.proofs.{Imports.into_iter_items, Imports.lists_of, Rests.IsRowing}

-- the links to the machines below `to` are finished
abbrev pub invariant-loop-to : goal.invariant-loop-to
invariant-loop-to g l =
    IsRowing l.from l.to l.fn.row.items l.fn.outs.items (lists_of l.fn.inns.items) l.fn.waits.items
    (into_iter_items l.row) (into_iter_items l.outs) (lists_of l.inns.items) l.waits.items
