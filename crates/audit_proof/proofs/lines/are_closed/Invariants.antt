use Rattle.audit_proof.proofs.Imports.{closed_at, drop, list_all, listed_in, ◌≡◌}
use Rattle.audit_proof.proofs.lines.are_closed.Given as goal

abbrev pub invariant-loop-step : goal.invariant-loop-step
invariant-loop-step g l =
    let parents = (g.A.Arrows.graph l.graph).parents in
    list_all (λ y. closed_at l.listed (parents y)) (listed_in l.steps)
    ≡ list_all (λ y. closed_at l.listed (parents y)) (listed_in (drop l.step-index l.steps))
