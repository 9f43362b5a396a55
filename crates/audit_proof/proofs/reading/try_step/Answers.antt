use Rattle.audit_proof.proofs.{Imports.rules, Imports.sym, Imports.true, Imports.◌∙◌, Imports.◌≡◌, LineFacts.in_decides}
use Rattle.audit_proof.proofs.reading.try_step.Goals as goal

pub returns-clause-below : goal.returns-clause-below
returns-clause-below g c _ =
    let has : c.has.result ≡ true = search rules in
    let (i, within, is) = (in_decides c.parents.result.now c.args.step.ancestor).0 (sym c.has.ensures ∙ has) in
    rw is at (c.parents.ensures.below i c.args.step.ancestor within)
