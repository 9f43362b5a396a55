use Rattle.log_repair.proofs.Imports.{drop, node_of_sealed, Going, InOrder, TakesRound, TakesTurn}
use Rattle.log_repair.proofs.Turns.{numbers}
use Rattle.log_repair.proofs.repairing.take_round.Given as goal

-- the machines so far had their turns
abbrev pub invariant-loop-m : goal.invariant-loop-m
invariant-loop-m l =
    Going (λ after. InOrder (TakesTurn node_of_sealed after) (drop l.m (numbers l.fn.world)))
    (TakesRound node_of_sealed) l.fn.world l.fn.steps.items l.steps.items l.world
