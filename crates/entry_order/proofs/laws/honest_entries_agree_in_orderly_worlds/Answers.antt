use Rattle.entry_order.proofs.laws.honest_entries_agree_in_orderly_worlds.Goals as goal

pub returns : goal.returns
returns g c = Rattle.entry_order.proofs.Honest.honest_entries_agree_in_orderly_worlds g.T.Knot.node
