use Rattle.small_worlds.proofs.digests.unborne.Given as goal
use Rattle.entry_order.specs.Naming.{has_digest}
use Rattle.std.proofs.Common.{take, ◌≡◌}
use Rattle.std.specs.{List.filter, Prelude.not}

abbrev pub invariant-loop-digest : goal.invariant-loop-digest
invariant-loop-digest g l =
    l.lost.items ≡ filter (λ d. not (has_digest g.T.Knot.node l.entries d)) (take l.digest-index l.digests)
