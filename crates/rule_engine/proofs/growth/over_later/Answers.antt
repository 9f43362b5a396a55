use Rattle.rule_engine.proofs.Imports.{ap, arith, both, both_true, env_of, known_before, known_whole, no_rest}
use Rattle.rule_engine.proofs.Imports.{step_with, stop_with, sym, ◌∙◌}
use Rattle.rule_engine.proofs.growth.over_later.Goals as goal

pub loop-i-preserved : goal.loop-i-preserved
loop-i-preserved c =
    let s = c.args.survivors.now in
    let q = c.args.quantifier in
    step_with s.rows.now (known_before s.known.order.now) (known_whole s.known.order.now) q.some c.args.body.now q.v
    q.kind q.within (env_of c.args.scope.now) c.loop-i.i c.loop-i.least c.value_at.result c.both-least.result _
    c.loop-i-test.true c.value_at.ensures c.both-least.ensures c.loop-i.invariant

pub returns-then-is_false : goal.returns-then-is_false
returns-then-is_false c =
    let s = c.args.survivors.now in
    let q = c.args.quantifier in
    stop_with s.rows.now (known_before s.known.order.now) (known_whole s.known.order.now) q.some c.args.body.now q.v
    q.kind q.within (env_of c.args.scope.now) c.loop-i.i c.loop-i.least c.value_at.result c.both-least.result _
    c.loop-i-test.true c.value_at.ensures c.both-least.ensures c.loop-i.invariant
    (sym c.is_false.ensures ∙ c.if-is_false.true)

pub returns : goal.returns
returns c =
    let s = c.args.survivors.now in
    let q = c.args.quantifier in
    sym (c.loop-i.invariant
    ∙ ap (both c.loop-i.least) (no_rest s.rows.now (known_before s.known.order.now) (known_whole s.known.order.now)
    q.some c.args.body.now q.v q.kind q.within (env_of c.args.scope.now) c.loop-i.i
    (omega (arith, c.loop-i-test.false))) ∙ both_true c.loop-i.least)
