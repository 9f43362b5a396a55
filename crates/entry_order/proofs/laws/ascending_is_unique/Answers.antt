use Rattle.entry_order.proofs.laws.ascending_is_unique.Goals as goal

pub returns : goal.returns
returns c = Rattle.entry_order.proofs.Ascending.ascending_is_unique
