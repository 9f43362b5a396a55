use Rattle.log_repair.proofs.Imports.{[], drop_all, drop_more, node_of_sealed, Asks}
use Rattle.log_repair.proofs.Going.{going_fails, going_more, going_none, if_failed, next_joins}
use Rattle.log_repair.proofs.OneWay.{asks_continue}
use Rattle.log_repair.proofs.repairing.ask_all.Goals as goal

pub loop-digest-init : goal.loop-digest-init
loop-digest-init c = going_none

pub loop-digest-preserved : goal.loop-digest-preserved
loop-digest-preserved c =
    let asks = c.in_ok-ask.ensures.ok in
    let next = drop_more c.args.digests.now c.loop-digest.digest-index [] c.loop-digest-test.true in
    going_more c.loop-digest.invariant asks
    (next_joins c.loop-digest.world (λ after. Asks node_of_sealed after c.args.m) _ _ _ next asks.taken)

pub returns-in_err-ask-clause-err : goal.returns-in_err-ask-clause-err
returns-in_err-ask-clause-err c =
    let next = drop_more c.args.digests.now c.loop-digest.digest-index [] c.loop-digest-test.true in
    if_failed c.from_residual.result
    (going_fails c.loop-digest.invariant c.in_err-ask.ensures.err
    (next_joins c.loop-digest.world (λ after. Asks node_of_sealed after c.args.m) _ _ _ next)
    (λ next log says u. asks_continue node_of_sealed next log c.args.m _ u))

pub returns-clause-ok : goal.returns-clause-ok
returns-clause-ok c =
    rw (drop_all c.loop-digest.digest-index c.args.digests.now c.loop-digest-test.false) at c.loop-digest.invariant
