use Rattle.counterexamples.proofs.WrongFacts.{strays_by_others_fail}
use Rattle.counterexamples.proofs.orders.strays_by_others_fail.Goals as goal

pub returns : goal.returns
returns c = strays_by_others_fail
