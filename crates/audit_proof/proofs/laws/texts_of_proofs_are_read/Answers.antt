use Rattle.audit_proof.proofs.ReadTexts.{texts_of_proofs_are_read}
use Rattle.audit_proof.proofs.laws.texts_of_proofs_are_read.Goals as goal

pub returns : goal.returns
returns c = texts_of_proofs_are_read
