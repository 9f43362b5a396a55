use Rattle.log_repair.proofs.repairing.take_round.Goals as goal
use Rattle.log_repair.proofs.Going.{going_fails, going_more, going_start, if_failed, next_joins}
use Rattle.log_repair.proofs.Imports.{node_of_sealed, rules, TakesTurn}
use Rattle.log_repair.proofs.{OneWay.turns_continue, Turns.next_number, Turns.no_number}

pub loop-m-init : goal.loop-m-init
loop-m-init c = going_start (λ next log says rest last turns. turns)

pub loop-m-preserved : goal.loop-m-preserved
loop-m-preserved c =
    let turn = c.in_ok-take_turn.ensures.ok in
    let next = next_number c.loop-m.m c.world.view_is (search rules) in
    going_more c.loop-m.invariant turn
    (next_joins c.loop-m.world (TakesTurn node_of_sealed) c.loop-m.m _ _ next turn.taken)

pub returns-in_err-take_turn-clause-err : goal.returns-in_err-take_turn-clause-err
returns-in_err-take_turn-clause-err c =
    let next = next_number c.loop-m.m c.world.view_is (search rules) in
    if_failed c.from_residual.result (going_fails c.loop-m.invariant c.in_err-take_turn.ensures.err
    (next_joins c.loop-m.world (TakesTurn node_of_sealed) c.loop-m.m _ _ next)
    (λ next log says u. turns_continue node_of_sealed next log _ u))

pub returns-clause-ok : goal.returns-clause-ok
returns-clause-ok c =
    rw (no_number c.loop-m.m c.world.view_is (search rules)) at c.loop-m.invariant
