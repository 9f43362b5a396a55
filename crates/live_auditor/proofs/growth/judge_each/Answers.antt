use Rattle.live_auditor.proofs.Imports.{AllZip-long, arith, judged_more, length-map, map, rule_tree}
use Rattle.live_auditor.proofs.Judged.{judged_at}
use Rattle.live_auditor.proofs.growth.judge_each.Goals as goal

pub bounds-before-place : goal.bounds-before-place
bounds-before-place c =
    let each = AllZip-long _ (map rule_tree c.args.rules.now) c.args.before.now c.requires.before in
    omega (arith, c.loop-place-test.true, each, length-map c.args.rules.now rule_tree)

pub judge_grown-requires-clause-before : goal.judge_grown-requires-clause-before
judge_grown-requires-clause-before c =
    judged_at _ _ _ c.args.rules.now c.args.before.now c.loop-place.place _ _ c.requires.before
    c.loop-place-test.true c.index-rules-place.is c.index-before-place.is

pub loop-place-preserved : goal.loop-place-preserved
loop-place-preserved c graph known =
    rw c.in_ok-push-in-Ok.ensures.items (judged_more c.args.judge.now.rows graph c.args.rules.now c.loop-place.place
    c.index-rules-place.result c.loop-place.verdicts.items c.in-Ok.verdict c.loop-place-test.true
    c.index-rules-place.is (c.loop-place.invariant graph known) (c.in-Ok.ensures graph known))
