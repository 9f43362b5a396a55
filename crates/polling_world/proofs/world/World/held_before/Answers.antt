use Rattle.polling_world.proofs.world.World.held_before.Goals as goal
use Rattle.polling_world.proofs.Imports.{ap, Bool, HeldBefore, IfOk-weaker, IsOrderly, IsSentAt, IsTrue, List}
use Rattle.polling_world.proofs.Imports.{MachineState, node_of_sealed, one_order, SealedEntry, subst, world_of}
use Rattle.polling_world.proofs.{Imports.WorldState, Imports.◌↔◌, Imports.◌∙◌, Imports.◌≡◌, Placing.sent_at_sent}

-- where digests differ, what was held before is what names lead to
pub returns-clause-names : goal.returns-clause-names
returns-clause-names c =
    let machines : List MachineState = c.args.self.now.machines in
    let seen = ap (λ (state : WorldState). state.machines) c.self.view_is in
    let P : List MachineState → Type 0 = λ ms. IsOrderly node_of_sealed (world_of ms) in
    let orderly : P machines = subst P seen c.self.invariant.orderly in
    let lent : c.deref.result.now ≡ machines = c.deref.ensures.value ∙ seen in
    let Q : Bool → List MachineState → Type 0 = λ yes ms. (f e : SealedEntry) →
    IsSentAt (world_of ms) c.args.f.0 c.args.f.1 f → IsSentAt (world_of ms) c.args.e.0 c.args.e.1 e →
    IsTrue yes ↔ HeldBefore (world_of ms) f e in
    IfOk-weaker c.held_before.result _ _
    (λ yes held distinct first second f e.
    let counted : Q yes machines = subst (Q yes) lent held in
    let said = counted first second f e in
    let order = one_order node_of_sealed (world_of machines) orderly distinct first second
    (sent_at_sent (world_of machines) _ _ first f)
    (sent_at_sent (world_of machines) _ _ second e) in
    (λ t. order.1 (said.0 t), λ p. said.1 (order.0 p)))
    c.held_before.ensures
