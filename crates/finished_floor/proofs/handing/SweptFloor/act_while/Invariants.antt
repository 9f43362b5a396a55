use Rattle.finished_floor.proofs.Imports.{IsTurn, actions_left}
use Rattle.finished_floor.proofs.handing.SweptFloor.act_while.Given as goal

-- the machine acted, or nothing changed
abbrev pub invariant-loop-did : goal.invariant-loop-did
invariant-loop-did l = IsTurn (Unit {0}) l.initial.self l.did l.self

-- each action that is done leaves fewer
abbrev pub decreases-loop-did : goal.decreases-loop-did
decreases-loop-did l = actions_left l.self.machines.items
