use Rattle.entry_order.proofs.laws.numbered_is_distinct.Goals as goal

pub returns : goal.returns
returns g c = Rattle.entry_order.proofs.Honest.numbered_is_distinct g.T.Knot.node
