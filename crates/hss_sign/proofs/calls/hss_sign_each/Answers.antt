use Rattle.hss_sign.proofs.calls.hss_sign_each.Goals as goal
use Rattle.hss_sign.proofs.Answered.{leaves_differ, one_answer_more, sign_answered}
use Rattle.hss_sign.specs.{Signs.leaves_in, TwoLevels.TwoLevelSecret}
use Rattle.lms_sign.proofs.Answered.{message_at}
use Rattle.lms_sign.specs.Calls.{accepted}
use Rattle.std.proofs.Common.{ap, arith, IfOk, length, subst, ◌%◌, ◌+◌, ◌/◌, ◌^◌, ◌∙◌, ◌≡◌}
use Rattle.std.proofs.lemmas.List.{length_push}

pub loop-message-preserved : goal.loop-message-preserved
loop-message-preserved c =
    let first = c.args.secret.now in
    let before = c.loop-message.answers.items in
    let after = c.push_reserved.new.self.items in
    let items = c.push_reserved.ensures.items in
    let next = c.loop-message.invariant.next in
    let old = c.loop-message.secret in
    let leaves : IfOk c.sign.result (λ s. leaves_in first.kind first.top s.items
    ≡ (old.next / 2 ^ old.low, old.next % 2 ^ old.low)) =
    subst (λ (v : TwoLevelSecret). IfOk c.sign.result (λ s. leaves_in v.kind v.top s.items
    ≡ (old.next / 2 ^ old.low, old.next % 2 ^ old.low))) next c.sign.ensures.leaves in
    let row = sign_answered (λ s. leaves_in first.kind first.top s.items) before after c.sign.result first
    old c.sign.new.self items leaves c.sign.ensures.next c.sign.ensures.err next c.loop-message.invariant.leaves in
    record {
      room = omega (arith, c.push_reserved.ensures.capacity);
      count = ap length items ∙ length_push before c.sign.result ∙ ap (λ n. n + 1) c.loop-message.invariant.count;
      next = row.0;
      leaves = row.1;
      answers =
          one_answer_more first old _ _ before after c.sign.result items next
          (message_at c.args.messages.now _ (length before) c.loop-message.message-index c.loop-message.invariant.count
          (omega arith))
          (record { signed = c.sign.ensures.ok; spent = c.sign.ensures.spent }) c.loop-message.invariant.answers;
    }

pub returns-clause-once : goal.returns-clause-once
returns-clause-once c =
    rw c.loop-message.invariant.leaves
    (leaves_differ c.args.secret.now.low c.args.secret.now.next (length (accepted c.loop-message.answers.items)))
