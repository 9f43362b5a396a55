use Rattle.floor_tests.proofs.sessions.machine_at.Goals as goal
use Rattle.finished_floor.proofs.{Beginnings.fresh_at, Beginnings.fresh_events, News.new_of}
use Rattle.finished_floor.specs.Places.{IsStopOf}
use Rattle.std.proofs.Common.{subst}

pub returns-clause-of : goal.returns-clause-of
returns-clause-of c =
    new_of c.args.script.now c.args.at c.stop_of-stop_at.result c.in_ok-machine.machine
    (subst (λ l. IsStopOf l c.args.at c.stop_of-stop_at.result) c.as_slice.ensures c.stop_of-stop_at.ensures)
    c.in_ok-machine.ensures c.log-log.ensures.machine

pub returns-clause-events : goal.returns-clause-events
returns-clause-events c =
    fresh_events c.args.script.now c.args.at c.stop_of-stop_at.result c.in_ok-machine.machine c.in_ok-machine.ensures

pub returns-clause-at : goal.returns-clause-at
returns-clause-at c =
    fresh_at c.args.script.now c.args.at c.stop_of-stop_at.result c.in_ok-machine.machine c.in_ok-machine.ensures
    c.log-log.ensures.machine
