use Rattle.finished_floor.proofs.Imports.{AreStillBelow, IsStillAt, IsTurn, arith, length, refl, subst, ◌+◌, ◌≡◌}
use Rattle.finished_floor.proofs.handing.SweptFloor.round.Goals as goal
use Rattle.finished_floor.proofs.Turns.{turn_none, turn_more, still_more}

pub loop-at-init : goal.loop-at-init
loop-at-init c =
    turn_none (AreStillBelow 0 c.args.self.now.machines.items) c.args.self.now c.requires
    (λ place lt. absurd (omega arith))

pub loop-at-preserved : goal.loop-at-preserved
loop-at-preserved c =
    let ms = c.args.self.now.machines.items in
    let now = c.loop-at.self.machines.items in
    let at = c.loop-at.at in
    turn_more (AreStillBelow at ms) (IsStillAt now at) (AreStillBelow (at + 1) ms) c.args.self.now c.loop-at.self
    c.act_while.new.self c.loop-at.did c.in_ok-did.field-0 _ refl c.loop-at.invariant c.in_ok-did.ensures
    (λ below same next. still_more at ms now below same next)

pub returns : goal.returns
returns c =
    let ms = c.args.self.now.machines.items in
    let end : c.loop-at.at ≡ length ms = let ok = c.args.self.now.machines.ok.0 in omega (arith, c.loop-at-test.false) in
    subst (λ n. IsTurn (AreStillBelow n ms) c.args.self.now c.loop-at.did c.loop-at.self) end c.loop-at.invariant
