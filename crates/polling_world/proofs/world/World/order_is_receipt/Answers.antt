use Rattle.polling_world.proofs.Imports.{List, ap, subst, node_of_sealed, Distinct, OrderIsReceiptIn, sent_in}
use Rattle.polling_world.proofs.Imports.{one_order, MachineState, WorldState, world_of}
use Rattle.polling_world.proofs.world.World.order_is_receipt.Goals as goal

pub returns-clause-order : goal.returns-clause-order
returns-clause-order c =
    let P : List MachineState → Type 0 = λ ms.
    Distinct node_of_sealed (sent_in (world_of ms)) → OrderIsReceiptIn node_of_sealed (world_of ms) in
    let order : P c.self.inside.machines.items = λ distinct.
    one_order node_of_sealed (world_of c.self.inside.machines.items) c.self.invariant.orderly distinct in
    subst P (ap (λ (state : WorldState). state.machines) c.self.view_is) order
