use Rattle.rule_engine.proofs.rules.judge_all.Goals as goal
use Rattle.rule_engine.proofs.{Imports.arith, Imports.take_all, OneByOne.first_too_wide, OneByOne.judged_more}

pub returns-in-Err-TooWide-clause-err : goal.returns-in-Err-TooWide-clause-err
returns-in-Err-TooWide-clause-err c = λ graph known.
    let wide = rw (c.in-Err-TooWide.field-0-is, c.in_ok-judge.ensures) at c.in-Err-TooWide.ensures in
    first_too_wide c.args.rows.now graph c.args.rules.now c.loop-place.place c.index-rules-place.result
    c.loop-place.verdicts.items c.loop-place-test.true c.index-rules-place.is (c.loop-place.invariant graph known)
    (wide graph known)

pub loop-place-preserved : goal.loop-place-preserved
loop-place-preserved c = λ graph known.
    let judged = rw c.in_ok-judge.ensures at c.in-Ok.ensures in
    rw c.in_ok-push-in-Ok.ensures.items (judged_more c.args.rows.now graph c.args.rules.now c.loop-place.place
    c.index-rules-place.result c.loop-place.verdicts.items c.in-Ok.verdict c.loop-place-test.true
    c.index-rules-place.is (c.loop-place.invariant graph known) (judged graph known))

pub returns-clause-ok : goal.returns-clause-ok
returns-clause-ok c = λ graph known.
    rw (take_all c.loop-place.place c.args.rules.now (omega (arith, c.loop-place-test.false))) at
    (c.loop-place.invariant graph known)
