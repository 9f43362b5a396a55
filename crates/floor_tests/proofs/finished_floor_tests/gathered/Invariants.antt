use Rattle.finished_floor.proofs.News.{AreNew}
use Rattle.floor_tests.proofs.finished_floor_tests.gathered.Given as goal

-- the machines so far are the script's, without events, and as many lists are empty
abbrev pub invariant-loop-at : goal.invariant-loop-at
invariant-loop-at l = AreNew (λ row. row.items) l.script l.at l.machines.items l.by.items
