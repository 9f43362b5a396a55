use Rattle.finished_floor.proofs.Filled.{Filling}
use Rattle.finished_floor.proofs.filling.fill.Given as goal

-- the lists of the machines below `at` are filled up
abbrev pub invariant-loop-at : goal.invariant-loop-at
invariant-loop-at l = Filling (λ row. row.items) l.machines l.at l.by.items
