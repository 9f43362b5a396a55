use Rattle.counterexamples.proofs.ExampleFacts.{is_example}
use Rattle.counterexamples.proofs.orders.three_machines.Goals as goal

pub returns : goal.returns
returns c = is_example
