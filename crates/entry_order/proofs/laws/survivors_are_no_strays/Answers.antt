use Rattle.entry_order.proofs.laws.survivors_are_no_strays.Goals as goal

pub returns-clause-exactly : goal.returns-clause-exactly
returns-clause-exactly g c = Rattle.entry_order.proofs.Strays.survivors_are_no_strays g.T.Knot.node

pub returns-clause-no_cycle : goal.returns-clause-no_cycle
returns-clause-no_cycle g c = Rattle.entry_order.proofs.Strays.survivors_have_no_cycle g.T.Knot.node
