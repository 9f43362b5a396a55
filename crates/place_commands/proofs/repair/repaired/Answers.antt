use Rattle.place_commands.proofs.Repairs.{comes_by_repair}
use Rattle.place_commands.proofs.repair.repaired.Goals as goal

-- the machines have played, were mended and have finished
pub answer_of-requires-clause-comes : goal.answer_of-requires-clause-comes
answer_of-requires-clause-comes c =
    let mends = c.in_ok-mended.ensures in
    let ends = c.in_ok-_finishing.ensures in
    let script = c.args.script.now in
    rw c.as_slice.ensures.value
    (comes_by_repair script c.in_ok-world.world c.repair.new.world c.finish.new.world c.in_ok-mended.mended.items
    c.in_ok-_finishing._finishing.items c.in_ok-world.ensures.machines c.in_ok-world.ensures.roster mends.ok ends.ok
    mends.roster mends.configs mends.stops ends.roster ends.configs ends.stops)
