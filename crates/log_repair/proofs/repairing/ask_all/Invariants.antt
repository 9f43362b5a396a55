use Rattle.log_repair.proofs.Imports.{drop, node_of_sealed, Asks, Going, InOrder}
use Rattle.log_repair.proofs.repairing.ask_all.Given as goal

-- the digests so far were asked for
abbrev pub invariant-loop-digest : goal.invariant-loop-digest
invariant-loop-digest l =
    Going (λ after. InOrder (Asks node_of_sealed after l.m) (drop l.digest-index l.digests))
    (λ after. InOrder (Asks node_of_sealed after l.m) l.digests) l.fn.world l.fn.steps.items l.steps.items l.world
