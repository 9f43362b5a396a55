use Rattle.finished_floor.proofs.Imports.{IsStillAt, MachineState, List, subst, or_right}
use Rattle.finished_floor.proofs.handing.SweptFloor.act_while.Goals as goal
use Rattle.finished_floor.proofs.Turns.{turn_none, turn_more, nothing_more}

pub loop-did-init : goal.loop-did-init
loop-did-init c = turn_none (Unit {0}) c.args.self.now c.requires.numbered tt

pub loop-did-preserved : goal.loop-did-preserved
loop-did-preserved c =
    let did = c.in_ok-act_at.field-0 in
    turn_more (Unit {0}) (IsStillAt c.loop-did.self.machines.items c.args.at) (Unit {0}) c.args.self.now
    c.loop-did.self c.act_at.new.self c.loop-did.did did _ (or_right c.loop-did.did did c.if-branch.true)
    c.loop-did.invariant c.in_ok-act_at.ensures (λ before same after. tt)

pub loop-did-smaller : goal.loop-did-smaller
loop-did-smaller c = c.in_ok-act_at.ensures.acted c.if-branch.true

pub returns : goal.returns
returns c =
    let at = c.args.at in
    turn_more (Unit {0}) (IsStillAt c.loop-did.self.machines.items at)
    (IsStillAt c.args.self.now.machines.items at) c.args.self.now c.loop-did.self c.act_at.new.self
    c.loop-did.did c.in_ok-act_at.field-0 c.loop-did.did (nothing_more c.loop-did.did _ c.if-branch.false)
    c.loop-did.invariant c.in_ok-act_at.ensures
    (λ before same after. subst (λ (l : List MachineState). IsStillAt l at) same after)
