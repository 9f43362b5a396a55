use Rattle.log_repair.proofs.Imports.{[], drop, node_of_sealed, ActsOn, Finishes, Going, InOrder}
use Rattle.log_repair.proofs.Turns.{numbers}
use Rattle.log_repair.proofs.finishing.finish.Given as goal

-- the machines so far have finished
abbrev pub invariant-loop-m : goal.invariant-loop-m
invariant-loop-m l =
    Going (λ after. InOrder (ActsOn node_of_sealed after) (drop l.m (numbers l.fn.world))) (Finishes node_of_sealed)
    l.fn.world [] l.steps.items l.world
