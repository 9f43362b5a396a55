use Rattle.rule_engine.proofs.index.Kinds.make.Goals as goal
use Rattle.rule_engine.proofs.{Imports.arith, Indexed.by_kind_all, Indexed.by_kind_more, Indexed.by_kind_none}

pub loop-place-init : goal.loop-place-init
loop-place-init c = by_kind_none c.args.rows.now _ c.in_ok-places.ensures

pub loop-place-preserved : goal.loop-place-preserved
loop-place-preserved c =
    by_kind_more c.args.rows.now c.loop-place.place c.rank.result _ _ _
    (omega (arith, c.loop-place-test.true, c.count-place-end.ensures.count, c.requires)) c.rank.ensures
    c.in_ok-list_at.ensures c.loop-place.invariant

pub returns : goal.returns
returns c =
    by_kind_all c.args.rows.now c.loop-place.place (record { places = c.loop-place.places })
    (omega (arith, c.loop-place-test.false, c.count-place-end.ensures.count, c.requires)) c.loop-place.invariant
