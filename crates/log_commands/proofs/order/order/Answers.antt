use Rattle.log_commands.proofs.Imports.{found_answered, IfOk-weaker, refused_answered}
use Rattle.log_commands.proofs.OrderAnswers.{order_answered, order_refused}
use Rattle.log_commands.proofs.order.order.Goals as goal

pub returns-in-Ok : goal.returns-in-Ok
returns-in-Ok g c =
    let place = c.in-Ok.place in
    found_answered g.S.Store _ _ _ _ _ _ place _ c.in-Ok.ensures
    (IfOk-weaker _ _ _ (λ answer. order_answered _ _ _ _ place.read place.logs.items answer) c.order_over.ensures.told)
    c.order_over.ensures.status c.order_over.ensures.fault

pub returns-in-Err : goal.returns-in-Err
returns-in-Err g c =
    refused_answered g.S.Store _ _ _ _ _ _ c.in-Err.fault _ c.in-Err.ensures c.of_fault.ensures.ok
    c.of_fault.ensures.err (order_refused _ _ _ _)
