use Rattle.rule_engine.proofs.Imports.{known_before, known_whole, rules, sym}
use Rattle.rule_engine.proofs.Grown.{every_grown, none_later}
use Rattle.rule_engine.proofs.growth.every_grown.Goals as goal

pub returns-then-not-reaches_some : goal.returns-then-not-reaches_some
returns-then-not-reaches_some c =
    let rows = c.args.survivors.now.rows.now in
    let known = c.args.survivors.now.known.order.now in
    let body = c.args.body.now in
    let none = none_later body rows c.args.count c.reaches_some.result c.reaches_some.ensures (search rules) in
    rw (c.both.ensures, c.requires.before, c.over_later-later.ensures, c.quantifier_over-quantifier.ensures)
    (sym (every_grown rows c.args.count c.requires.first (known_before known) (known_whole known) c.requires.later body
    c.args.v c.args.kind none))
