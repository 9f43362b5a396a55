use Rattle.std.specs.Prelude.{[], slice_index_or}
use Rattle.listed_graphs.proofs.Below.{lower_lists_descend}
use Rattle.proof_tests.proofs.graphs.written.Goals as goal

pub prove-requires-clause-descends : goal.prove-requires-clause-descends
prove-requires-clause-descends c = lower_lists_descend (λ i. slice_index_or c.args.graph.now.nodes.items i [])
