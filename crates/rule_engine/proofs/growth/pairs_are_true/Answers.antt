use Rattle.rule_engine.proofs.Imports.{false, known_before, known_whole, rules, sym, true_is, ◌==◌, ◌∙◌, ◌≡◌}
use Rattle.rule_engine.proofs.Grown.{none_later, pairs_grown}
use Rattle.rule_engine.proofs.growth.pairs_are_true.Goals as goal

pub returns-then-is_true : goal.returns-then-is_true
returns-then-is_true c = λ yes before.
    let rows = c.args.survivors.now.rows.now in
    let known = c.args.survivors.now.known.order.now in
    let count = c.args.count in
    let a = c.in-ForEvery in
    let differ : (c.args.v == a.u) ≡ false = search rules in
    let none = none_later c.deref.result.now rows count c.reaches_some.result c.reaches_some.ensures (search rules) in
    let firsts = sym c.over_later.ensures ∙ true_is c.over_later.result (sym c.is_true.ensures ∙ c.if-is_true.true) in
    pairs_grown rows count c.requires.first (known_before known) (known_whole known) c.requires.later c.args.body.now
    c.args.v a.u c.args.kind a.other a.inner differ a.is (rw c.deref.ensures at none)
    (rw c.quantifier_over-quantifier.ensures at firsts)
    (rw (c.quantifier_over-quantifier.ensures, c.deref-then-is_true.ensures) at (c.are_true_with.ensures yes)) before
