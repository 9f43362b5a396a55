use Rattle.audit_proof.proofs.{Imports.arith, LineFacts.numbers_inside}
use Rattle.audit_proof.proofs.lines.finish.Goals as goal

pub lacks_no_parent-requires-clause-inside : goal.lacks_no_parent-requires-clause-inside
lacks_no_parent-requires-clause-inside g c =
    rw c.deref.ensures.value (λ k d low. (numbers_inside _ _ c.requires.begun k d low).0)

pub of-requires-clause-small : goal.of-requires-clause-small
of-requires-clause-small g c k d low =
    let small = numbers_inside _ _ c.requires.begun k d low in omega (arith, c.requires.few)
