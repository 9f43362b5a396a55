use Rattle.log_repair.proofs.Imports.{◌+◌, ◌*◌, [], if◌then◌else◌, node_of_sealed, Going, Repairs, TakesRound, spare}
use Rattle.log_repair.proofs.OneWay.{LoopsWhile}
use Rattle.log_repair.proofs.repairing.repair.Given as goal

-- some rounds were taken, and once one changed nothing all is mended
abbrev pub invariant-loop-is_moving : goal.invariant-loop-is_moving
invariant-loop-is_moving l =
    Going (λ after. LoopsWhile l.is_moving (TakesRound node_of_sealed after)) (Repairs node_of_sealed) l.fn.world []
    l.steps.items l.world

abbrev pub decreases-loop-is_moving : goal.decreases-loop-is_moving
decreases-loop-is_moving l = 2 * spare l.world.machines + (if l.is_moving then 1 else 0)
