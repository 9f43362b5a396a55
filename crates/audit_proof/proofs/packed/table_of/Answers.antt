use Rattle.audit_proof.proofs.Imports.{replicate, rules, slice_get-get_or, ◌≡◌}
use Rattle.audit_proof.proofs.{LineFacts.a_step, Listings.table_blank, Listings.table_step}
use Rattle.audit_proof.proofs.packed.table_of.Goals as goal

pub loop-step-init : goal.loop-step-init
loop-step-init c =
    let items : c.in_ok-table.table.items ≡ replicate c.reach_of.result 0 = search rules in
    rw items (table_blank _ c.reach_of.result c.reach_of.ensures)

pub loop-step-preserved : goal.loop-step-preserved
loop-step-preserved c =
    rw c.enter.ensures (table_step _ _ _ _ c.requires.falls
    (slice_get-get_or c.args.steps.now _ (a_step 0 0) c.loop-step-test.true) c.loop-step.invariant)
