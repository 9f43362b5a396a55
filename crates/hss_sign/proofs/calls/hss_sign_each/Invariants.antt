use Rattle.hss_sign.proofs.calls.hss_sign_each.Given as goal
use Rattle.hss_sign.specs.{Calls.hss_used, Calls.HssAnswersEach, Calls.leaves_of, Signs.leaves_in}
use Rattle.lms_sign.specs.Calls.{accepted}
use Rattle.std.proofs.Common.{length, map, vec_capacity, ◌≡◌, ◌≤◌}
use Rattle.std.specs.List.{range_with_len}

-- the messages so far are answered, and there is room for the other answers
abbrev pub invariant-loop-message : goal.invariant-loop-message
invariant-loop-message l = record {
  room : length l.messages ≤ vec_capacity l.answers;
  count : length l.answers.items ≡ l.message-index;
  next : l.secret ≡ hss_used l.initial.secret (length (accepted l.answers.items));
  leaves : map (λ s. leaves_in l.initial.secret.kind l.initial.secret.top s.items) (accepted l.answers.items)
      ≡ map (leaves_of l.initial.secret.low)
      (range_with_len l.initial.secret.next (length (accepted l.answers.items)));
  answers : HssAnswersEach l.initial.secret (map (λ message. message.now) l.messages) l.answers.items;
}
