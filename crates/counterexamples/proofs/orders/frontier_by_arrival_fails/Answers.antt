use Rattle.counterexamples.proofs.WrongFacts.{frontier_by_arrival_fails}
use Rattle.counterexamples.proofs.orders.frontier_by_arrival_fails.Goals as goal

pub returns : goal.returns
returns c = frontier_by_arrival_fails
