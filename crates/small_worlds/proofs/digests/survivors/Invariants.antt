use Rattle.small_worlds.proofs.digests.survivors.Given as goal
use Rattle.entry_order.specs.Survivors.{is_stray}
use Rattle.std.proofs.Common.{take, ◌≡◌}
use Rattle.std.specs.{List.filter, Prelude.not}

abbrev pub invariant-loop-entry : goal.invariant-loop-entry
invariant-loop-entry g l =
    l.kept.items ≡ filter (λ e. not (is_stray g.T.Knot.node l.given e)) (take l.entry-index l.given)
