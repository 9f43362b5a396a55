use Rattle.machine_floor.proofs.finishing.finish_links.Given as goal
use Rattle.machine_floor.proofs.{Imports.length, Imports.lists_of, Rests.IsFinishing}

-- the links of the last senders are finished
abbrev pub invariant-loop-row : goal.invariant-loop-row
invariant-loop-row g l =
    IsFinishing l.fn.links (lists_of l.fn.outs.items) (lists_of l.fn.inns.items) (lists_of l.rows.items)
    (lists_of l.outs.items) (lists_of l.inns.items) l.waits.items

abbrev pub decreases-loop-row : goal.decreases-loop-row
decreases-loop-row g l = length l.rows.items
