use Rattle.entry_order.proofs.laws.order_is_exact_without_cycles.Goals as goal

pub returns : goal.returns
returns g c make makes = Rattle.entry_order.proofs.Filled.order_is_exact_without_cycles g.T.Knot.node make makes
