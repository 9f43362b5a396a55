use Rattle.rule_engine.proofs.Imports.{bind, has_kind, known_before, known_whole, over_rows, slice_get, True, true}
use Rattle.rule_engine.proofs.Imports.{unbound, ℕ, ◌<◌, ◌≡◌, ◌≤◌}
use Rattle.rule_engine.proofs.growth.are_true_with.Given as goal

-- the inner body is true with each later row so far
abbrev pub invariant-loop-j : goal.invariant-loop-j
invariant-loop-j l =
    let rows = l.survivors.rows.now in
    let P = known_before l.survivors.known.order.now in
    let R = known_whole l.survivors.known.order.now in
    let q = l.quantifier in
    (k : ℕ) → l.count ≤ k → k < l.j → has_kind l.kind (slice_get rows k) ≡ true →
    over_rows rows P R q.some l.formula q.v q.kind q.within (bind l.u k unbound) ≡ True
