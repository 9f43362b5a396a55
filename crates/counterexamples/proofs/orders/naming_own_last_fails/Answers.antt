use Rattle.counterexamples.proofs.WrongFacts.{naming_own_last_fails}
use Rattle.counterexamples.proofs.orders.naming_own_last_fails.Goals as goal

pub returns : goal.returns
returns c = naming_own_last_fails
