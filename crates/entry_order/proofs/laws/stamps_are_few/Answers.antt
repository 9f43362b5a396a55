use Rattle.entry_order.proofs.laws.stamps_are_few.Goals as goal

pub returns : goal.returns
returns g c = Rattle.entry_order.proofs.FewStamps.stamps_are_few g.T.Knot.node
