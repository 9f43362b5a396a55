use Rattle.live_auditor.proofs.widths.first_too_wide.Goals as goal
use Rattle.live_auditor.proofs.{Imports.arith, Imports.rules, Wide.first_wide, Wide.narrow_more, Wide.none_first}

pub returns-then-is_too_wide_over-clause-some : goal.returns-then-is_too_wide_over-clause-some
returns-then-is_too_wide_over-clause-some c =
    first_wide c.args.rows.now c.args.rules.now c.loop-place.place c.index-rules-place.result c.loop-place-test.true
    c.index-rules-place.is c.loop-place.invariant
    (grind (rules, c.if-is_too_wide_over.true, c.is_too_wide_over.ensures))

pub loop-place-preserved : goal.loop-place-preserved
loop-place-preserved c =
    narrow_more c.args.rows.now c.args.rules.now c.loop-place.place c.index-rules-place.result c.loop-place-test.true
    c.index-rules-place.is c.loop-place.invariant
    (grind (rules, c.if-is_too_wide_over.false, c.is_too_wide_over.ensures))

pub returns-clause-none : goal.returns-clause-none
returns-clause-none c =
    none_first c.args.rows.now c.args.rules.now c.loop-place.place (omega (arith, c.loop-place-test.false))
    c.loop-place.invariant
