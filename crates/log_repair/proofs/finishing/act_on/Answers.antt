use Rattle.log_repair.proofs.finishing.act_on.Goals as goal
use Rattle.log_repair.proofs.Going.{going_start, if_failed, loop_fails, loop_more, shrinks}
use Rattle.log_repair.proofs.{Imports.Act, Imports.node_of_sealed, Imports.TakesStep, Making.sends_with_room}
use Rattle.log_repair.proofs.OneWay.{acts_continue, acts_do, AnyStep, step_sure}

pub loop-is_moving-init : goal.loop-is_moving-init
loop-is_moving-init c = going_start (λ next log says rest last acts. acts_do node_of_sealed _ c.args.m _ last rest acts)

pub loop-is_moving-preserved : goal.loop-is_moving-preserved
loop-is_moving-preserved c =
    loop_more (λ after. TakesStep after (Act c.args.m))
    (λ after. step_sure after AnyStep (Act c.args.m) (λ _ _. tt))
    (rw c.loop-is_moving-test.true at c.loop-is_moving.invariant) c.in_ok-is_moving.ensures.adds _
    c.in_ok-is_moving.ensures.still

pub loop-is_moving-smaller : goal.loop-is_moving-smaller
loop-is_moving-smaller c =
    rw c.loop-is_moving-test.true (shrinks c.in_ok-is_moving.ensures.adds _ c.in_ok-is_moving.ensures.still)

pub returns-in_err-is_moving-clause-err : goal.returns-in_err-is_moving-clause-err
returns-in_err-is_moving-clause-err c =
    if_failed c.from_residual.result (loop_fails (λ after. TakesStep after (Act c.args.m))
    (λ after. step_sure after AnyStep (Act c.args.m) (λ _ _. tt))
    (rw c.loop-is_moving-test.true at c.loop-is_moving.invariant) c.in_err-is_moving.ensures.err
    (λ next log says u. acts_continue node_of_sealed next log (sends_with_room says) c.args.m u))

pub returns-clause-ok : goal.returns-clause-ok
returns-clause-ok c = rw c.loop-is_moving-test.false at c.loop-is_moving.invariant
