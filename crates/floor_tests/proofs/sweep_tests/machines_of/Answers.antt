use Rattle.finished_floor.proofs.Beginnings.{new_push}
use Rattle.floor_tests.proofs.sweep_tests.machines_of.Goals as goal

pub loop-at-preserved : goal.loop-at-preserved
loop-at-preserved c =
    let more = new_push c.loop-at.machines.items c.push.new.self.items c.in_ok-machine_at.field-0 c.loop-at.at
    c.loop-at.invariant.count c.loop-at.invariant.each c.in_ok-machine_at.ensures.at c.in_ok-machine_at.ensures.events
    c.in_ok-push.ensures.items in
    record { count = more.0; each = more.1 }
