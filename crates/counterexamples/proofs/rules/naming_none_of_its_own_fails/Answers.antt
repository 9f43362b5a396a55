use Rattle.counterexamples.proofs.NoChain.{naming_none_of_its_own_fails}
use Rattle.counterexamples.proofs.rules.naming_none_of_its_own_fails.Goals as goal

pub returns : goal.returns
returns c = naming_none_of_its_own_fails
