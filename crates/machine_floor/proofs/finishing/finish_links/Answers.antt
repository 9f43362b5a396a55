use Rattle.machine_floor.proofs.finishing.finish_links.Goals as goal
use Rattle.machine_floor.proofs.{Drops.lists_many, Imports.arith, Imports.length, Imports.lists_of, Imports.lists_push}
use Rattle.machine_floor.proofs.{Imports.◌≡◌, Rests.finishing_more, Rests.row_ready}

pub finish_row-requires-clause-ends : goal.finish_row-requires-clause-ends
finish_row-requires-clause-ends g c =
    let from : length (lists_of c.pop.new.self.items) ≡ c.len.result =
    (let k = c.pop.new.self.ok.0 in let l = c.len.ensures in omega (arith, lists_many c.pop.new.self.items)) in
    rw (← from) (row_ready c.requires c.loop-row.invariant _ c.in-Some.row.items
    (lists_push c.pop.new.self.items c.loop-row.rows.items c.in-Some.row c.in-Some.ensures.items) _
    c.in-Some-pop.ends.items
    (lists_push c.pop-in-Some.new.self.items c.loop-row.outs.items c.in-Some-pop.ends c.in-Some-pop.ensures.items))

pub loop-row-preserved : goal.loop-row-preserved
loop-row-preserved g c =
    let from : length (lists_of c.pop.new.self.items) ≡ c.len.result =
    (let k = c.pop.new.self.ok.0 in let l = c.len.ensures in omega (arith, lists_many c.pop.new.self.items)) in
    finishing_more c.requires c.loop-row.invariant _ c.in-Some.row.items
    (lists_push c.pop.new.self.items c.loop-row.rows.items c.in-Some.row c.in-Some.ensures.items) _
    c.in-Some-pop.ends.items
    (lists_push c.pop-in-Some.new.self.items c.loop-row.outs.items c.in-Some-pop.ends c.in-Some-pop.ensures.items)
    (lists_of c.finish_row.new.inns.items) c.finish_row.new.waits.items (rw (← from) at c.in_ok-finish_row.ensures)
