use Rattle.rule_engine.proofs.Imports.{known_before, known_whole, rules, unbound, value-ForEvery, ◌∙◌}
use Rattle.rule_engine.proofs.Grown.{none_later, same_formula}
use Rattle.rule_engine.proofs.growth.grown_value.Goals as goal

pub returns-then-not-reaches_some : goal.returns-then-not-reaches_some
returns-then-not-reaches_some c =
    let rows = c.args.survivors.now.rows.now in
    let known = c.args.survivors.now.known.order.now in
    let formula = c.args.formula.now in
    c.requires.before
    ∙ same_formula rows c.args.count c.requires.first (known_before known) (known_whole known) c.requires.later formula
    (none_later formula rows c.args.count c.reaches_some.result c.reaches_some.ensures (search rules)) unbound (λ v. tt)

pub every_grown-requires-clause-before : goal.every_grown-requires-clause-before
every_grown-requires-clause-before c =
    rw c.deref.ensures (rw (c.in-ForEvery.is, value-ForEvery) at c.requires.before)

pub returns-in-ForEvery : goal.returns-in-ForEvery
returns-in-ForEvery c = rw (c.in-ForEvery.is, value-ForEvery) (rw c.deref.ensures at c.every_grown.ensures)
