use Rattle.log_repair.proofs.Imports.{◌+◌, ◌*◌, if◌then◌else◌, node_of_sealed, Act, ActsOn, Going, TakesStep, spare}
use Rattle.log_repair.proofs.OneWay.{LoopsWhile}
use Rattle.log_repair.proofs.finishing.act_on.Given as goal

-- the machine acted some times, and once that changed nothing all is done
abbrev pub invariant-loop-is_moving : goal.invariant-loop-is_moving
invariant-loop-is_moving l =
    Going (λ after. LoopsWhile l.is_moving (TakesStep after (Act l.m))) (λ after. ActsOn node_of_sealed after l.m)
    l.fn.world l.fn.steps.items l.steps.items l.world

abbrev pub decreases-loop-is_moving : goal.decreases-loop-is_moving
decreases-loop-is_moving l = 2 * spare l.world.machines + (if l.is_moving then 1 else 0)
