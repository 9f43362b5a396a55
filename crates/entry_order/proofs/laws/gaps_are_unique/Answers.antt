use Rattle.entry_order.proofs.laws.gaps_are_unique.Goals as goal

pub returns : goal.returns
returns g c = Rattle.entry_order.proofs.Completions.gaps_are_unique g.T.Knot.node
