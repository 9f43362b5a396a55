use Rattle.audit_proof.proofs.Imports.{All, Line, ProofStep, subst, sym, unpacked, ◌<◌}
use Rattle.audit_proof.proofs.Listings.{all_second}
use Rattle.audit_proof.proofs.packed.lists_no_ragged.Goals as goal

pub are_even-requires : goal.are_even-requires
are_even-requires g c =
    let Inside = λ (step : ProofStep). step.ancestor < (g.A.Arrows.graph c.args.graph.now).count in
    rw c.deref-then-is_even.ensures.value
    (all_second (unpacked c.line.inside.table.items) c.line.inside.steps.items Inside
    (subst (λ (line : Line). All Inside line.steps) (sym c.line.view_is) c.requires))
