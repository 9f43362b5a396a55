use Rattle.audit_proof.proofs.Imports.{Falls, Line, subst, sym, unpacked}
use Rattle.audit_proof.proofs.Listings.{second_falls}
use Rattle.audit_proof.proofs.packed.lists.Goals as goal

pub is_listed-requires : goal.is_listed-requires
is_listed-requires c =
    rw c.deref-else-has_code.ensures.value (second_falls (unpacked c.line.inside.table.items) c.line.inside.steps.items
    (subst (λ (line : Line). Falls line.steps) (sym c.line.view_is) c.requires))
