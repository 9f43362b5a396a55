use Rattle.counterexamples.proofs.OwnBooth.{looking_for_its_own_booth_fails}
use Rattle.counterexamples.proofs.rules.looking_for_its_own_booth_fails.Goals as goal

pub returns : goal.returns
returns c = looking_for_its_own_booth_fails
