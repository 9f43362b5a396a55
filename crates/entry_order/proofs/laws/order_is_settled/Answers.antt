use Rattle.entry_order.proofs.laws.order_is_settled.Goals as goal

pub returns-clause-settled : goal.returns-clause-settled
returns-clause-settled g c = Rattle.entry_order.proofs.Settled.order_is_settled g.T.Knot.node

pub returns-clause-paths : goal.returns-clause-paths
returns-clause-paths g c = Rattle.entry_order.proofs.Completions.paths_are_settled g.T.Knot.node

pub returns-clause-exact : goal.returns-clause-exact
returns-clause-exact g c = Rattle.entry_order.proofs.Settled.graphs_are_exact g.T.Knot.node
