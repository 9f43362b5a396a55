use Rattle.item_list.proofs.Rows.{decided_more, decided_here, decided_whole}
use Rattle.item_list.proofs.causes.first_of.Goals as goal

pub loop-applies-init : goal.loop-applies-init
loop-applies-init g c = λ answer first. first

pub returns-then-applies : goal.returns-then-applies
returns-then-applies g c = decided_here c.args.row.now c.loop-applies.applies-index c.loop-applies-item.result
    c.loop-applies-test.true c.loop-applies-item.is c.if-applies.true c.loop-applies.invariant

pub loop-applies-preserved : goal.loop-applies-preserved
loop-applies-preserved g c = decided_more c.args.row.now c.loop-applies.applies-index c.loop-applies-item.result
    c.loop-applies-test.true c.loop-applies-item.is c.if-applies.false c.loop-applies.invariant

pub returns : goal.returns
returns g c = decided_whole c.args.row.now c.loop-applies.applies-index c.loop-applies-test.false
    c.loop-applies.invariant
