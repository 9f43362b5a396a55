use Rattle.polling_world.proofs.machine.Machine.why.Goals as goal
use Rattle.polling_world.proofs.Imports.{ap, arith, eq-eqb, IsGoing, IsReady, IsWhy, length, MachineState, subst, sym}
use Rattle.polling_world.proofs.{Imports.true≢false, Imports.◌^◌, Imports.◌∙◌, Imports.◌≢◌, Ruled.refused_why}
use Rattle.std.specs.Prelude.{not}

-- the cause of the rules
pub returns-in-Err : goal.returns-in-Err
returns-in-Err c =
    let fields = c.self.inside in
    let going : IsGoing c.args.self.now = ap not (sym c.has_stopped.ensures ∙ c.if-has_stopped.false) in
    subst (λ (m : MachineState). IsWhy m c.args.deed.now c.in-Err.why) c.self.view_is
    (refused_why _ c.args.deed.now c.in-Err.why (subst IsGoing (sym c.self.view_is) going)
    (c.in-Err.ensures fields.role fields.log.owner c.self.invariant.noted))

-- each test before was false
pub returns : goal.returns
returns c =
    let fields = c.self.inside in
    let kept = c.self.invariant in
    let going : IsGoing c.args.self.now = ap not (sym c.has_stopped.ensures ∙ c.if-has_stopped.false) in
    let other : fields.key.next ≢ 2 ^ fields.key.height =
    λ spent. true≢false (sym (eq-eqb fields.key.next (2 ^ fields.key.height) spent) ∙ sym c.is_spent.ensures
    ∙ c.if-is_spent.false) in
    subst (λ (m : MachineState). IsReady m c.args.deed.now) c.self.view_is (
    record {
      going = subst IsGoing (sym c.self.view_is) going;
      allowed = c.in-Ok.ensures fields.role fields.log.owner kept.noted;
      room = omega (arith, c.if-events-self.false, ap length c.events.ensures.events, kept.of_log);
      stamp = λ has. true≢false (sym (c.is_stamp_spent.ensures.1 has) ∙ c.if-is_stamp_spent.false);
      unspent = omega (arith, kept.signs_next, kept.indexed, other);
    })
