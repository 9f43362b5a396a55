use Rattle.office_key.proofs.GoodSignatures.{endorsed}
use Rattle.office_key.proofs.laws.endorsements_are_good.Goals as goal

pub returns : goal.returns
returns c = endorsed
