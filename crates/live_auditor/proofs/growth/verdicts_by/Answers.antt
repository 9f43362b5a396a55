use Rattle.live_auditor.proofs.Judged.{judged_over, last_comes_last}
use Rattle.live_auditor.proofs.growth.verdicts_by.Goals as goal

pub judge_each-requires-clause-later : goal.judge_each-requires-clause-later
judge_each-requires-clause-later c =
    rw c.in_ok-judge.ensures (last_comes_last c.requires (rw c.over-grown.ensures at c.in_ok-order.ensures))

pub judge_each-requires-clause-before : goal.judge_each-requires-clause-before
judge_each-requires-clause-before c =
    rw c.in_ok-judge.ensures (judged_over c.requires (rw c.over-grown.ensures at c.in_ok-order.ensures))
