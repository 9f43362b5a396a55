use Rattle.rule_engine.proofs.Imports.{both, env_of, known_before, known_whole, length, over_from, ◌-◌, ◌≡◌}
use Rattle.rule_meaning.proofs.Visits.{rest}
use Rattle.rule_engine.proofs.growth.over_later.Given as goal

-- the least so far, and what is left
abbrev pub invariant-loop-i : goal.invariant-loop-i
invariant-loop-i l =
    let rows = l.survivors.rows.now in
    let P = known_before l.survivors.known.order.now in
    let R = known_whole l.survivors.known.order.now in
    let q = l.quantifier in
    over_from rows P R q.some l.body q.v q.kind q.within (env_of l.scope) l.count (length rows - l.count)
    ≡ both l.least (rest rows P R q.some l.body q.v q.kind q.within (env_of l.scope) l.i)
