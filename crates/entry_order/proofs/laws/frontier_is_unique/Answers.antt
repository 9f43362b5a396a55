use Rattle.entry_order.proofs.laws.frontier_is_unique.Goals as goal

pub returns : goal.returns
returns g c = Rattle.entry_order.proofs.Frontiers.frontier_is_unique g.T.Knot.node
