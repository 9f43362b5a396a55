use Rattle.rule_meaning.proofs.Imports.{both, drop, env_of, over, over_rows, ◌≡◌}
use Rattle.rule_meaning.proofs.Visits.{rest, IsLeastSoFar}
use Rattle.rule_meaning.proofs.judging.+judging.Given as goal

abbrev pub invariant-over-loop-part : goal.invariant-over-loop-part
invariant-over-loop-part g l =
    let rows = l.scene.rows.now in
    let P = g.K.Knowledge.order l.scene.known in
    let R = g.K.Knowledge.wholes l.scene.known in
    over rows P R l.some l.parts (env_of l.scope)
    ≡ both l.least (over rows P R l.some (drop l.part-index l.parts) (env_of l.scope))

abbrev pub invariant-over_each-loop-i : goal.invariant-over_each-loop-i
invariant-over_each-loop-i g l =
    let rows = l.scene.rows.now in
    let P = g.K.Knowledge.order l.scene.known in
    let R = g.K.Knowledge.wholes l.scene.known in
    let q = l.quantifier in
    let env = env_of l.scope in
    over_rows rows P R q.some l.body q.v q.kind q.within env
    ≡ both l.least (rest rows P R q.some l.body q.v q.kind q.within env l.i)

-- the least so far is that of the visited rows
abbrev pub invariant-over_visited-loop-place : goal.invariant-over_visited-loop-place
invariant-over_visited-loop-place g l =
    let P = g.K.Knowledge.order l.scene.known in
    let R = g.K.Knowledge.wholes l.scene.known in
    IsLeastSoFar l.scene.rows.now P R l.quantifier l.body (env_of l.scope) l.places l.place-index l.least
