use Rattle.finished_floor.proofs.Imports.{AreStillBelow, IsTurn}
use Rattle.finished_floor.proofs.handing.SweptFloor.round.Given as goal

-- a machine below `at` acted, or none of them could
abbrev pub invariant-loop-at : goal.invariant-loop-at
invariant-loop-at l = IsTurn (AreStillBelow l.at l.initial.self.machines.items) l.initial.self l.did l.self
