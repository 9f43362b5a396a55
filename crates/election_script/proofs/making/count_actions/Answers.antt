use Rattle.election_script.proofs.making.count_actions.Goals as goal
use Rattle.election_script.proofs.{Day.count_within, Imports.ap, Imports.arith, Imports.length}

-- a machine does no more than all
pub overflow_cast-count : goal.overflow_cast-count
overflow_cast-count c =
    let within = count_within c.args.machines.now c.loop-cast.cast-index c.cast-item.result c.loop-cast-test.true
    c.cast-item.is in
    omega (arith, within, ap length c.as_slice.ensures)

-- the actions of the machines up to one are no more than those of all, so counting them does not
-- overflow
pub overflow_add-count : goal.overflow_add-count
overflow_add-count c =
    let within = count_within c.args.machines.now c.loop-cast.cast-index c.cast-item.result c.loop-cast-test.true
    c.cast-item.is in
    omega (arith, within, ap length c.as_slice.ensures, c.loop-cast.invariant)
