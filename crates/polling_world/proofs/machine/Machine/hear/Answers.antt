use Rattle.polling_world.proofs.Imports.{◌∙◌, sym, ap, state_of, IsGoing}
use Rattle.std.specs.Prelude.{not}
use Rattle.polling_world.proofs.Keeping.{IsKept-heard}
use Rattle.polling_world.proofs.machine.Machine.hear.Goals as goal
use Rattle.polling_world.proofs.machine.Machine.hear.Goals.{in-Taken, in-Own, in-Already, in-Full}

pub invariant_of-self : goal.invariant_of-self
invariant_of-self c =
    let fields = c.self.inside in
    let going : IsGoing c.args.self.now = ap not (sym c.has_stopped.ensures ∙ c.if-has_stopped.false) in
    IsKept-heard (state_of fields) fields.election fields.key.next fields.capacity fields.rules c.hear_into.new.rules
    c.self.invariant (rw (← c.self.view_is) at going) c.args.s c.hear_into.result c.hear_into.new.log
    c.hear_into.ensures.answer c.hear_into.ensures.log
    (c.hear_into.ensures.rules fields.role fields.log.owner c.self.invariant.noted) c.hear_into.ensures.spare

-- the machine's answer is its log's
pub returns-clause-answer : goal.returns-clause-answer
returns-clause-answer c =
    let now : IsGoing c.args.self.now = ap not (sym c.has_stopped.ensures ∙ c.if-has_stopped.false) in
    let going = rw (← c.self.view_is) at now in
    rw (← c.self.view_is) (elim c.match-hear_into.branch [
      | in-Taken w ↦ rw (w.result-is) (going, w.in-Taken.ensures.answer)
      | in-Own w ↦ rw (w.result-is) (going, w.in-Own.ensures.answer)
      | in-Already w ↦ rw (w.result-is) (going, w.in-Already.ensures.answer)
      | in-Full w ↦ rw (w.result-is) (going, w.in-Full.ensures.answer)
    ])
