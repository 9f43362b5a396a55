use Rattle.entry_order.proofs.laws.honest_entries_agree.Goals as goal

pub returns : goal.returns
returns g c = Rattle.entry_order.proofs.Honest.honest_entries_agree g.T.Knot.node
