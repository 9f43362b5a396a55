use Rattle.audit_proof.proofs.Listings.{IsTableOf}
use Rattle.audit_proof.proofs.packed.table_of.Given as goal

-- the steps so far are entered
abbrev pub invariant-loop-step : goal.invariant-loop-step
invariant-loop-step l = IsTableOf l.steps l.table.items l.step-index
