use Rattle.auditor.proofs.Imports.{inr, refl}
use Rattle.auditor.proofs.fault.AuditFault.of.Goals as goal

pub returns-in-Ok : goal.returns-in-Ok
returns-in-Ok c = rw c.in-Refused.is (inr (c.in-Ok.cause, c.in-Ok.ensures, refl))
