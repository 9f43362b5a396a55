use Rattle.entry_order.proofs.laws.names_were_held.Goals as goal

pub returns : goal.returns
returns g c = Rattle.entry_order.proofs.Orders.names_were_held g.T.Knot.node
