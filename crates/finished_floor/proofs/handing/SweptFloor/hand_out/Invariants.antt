use Rattle.finished_floor.proofs.Outs.{Handing}
use Rattle.finished_floor.proofs.handing.SweptFloor.hand_out.Given as goal

-- the machines below `to` were handed their copies
abbrev pub invariant-loop-to : goal.invariant-loop-to
invariant-loop-to l = Handing l.from l.count l.fn.copies.items l.initial.self l.to l.copies.items l.self
