use Rattle.small_worlds.proofs.digests.unnamed.Given as goal
use Rattle.entry_order.specs.Naming.{is_named}
use Rattle.std.proofs.Common.{map, take, ◌≡◌}
use Rattle.std.specs.{List.filter, Prelude.not}

abbrev pub invariant-loop-entry : goal.invariant-loop-entry
invariant-loop-entry g l =
    l.digests.items ≡ filter (λ d. not (is_named g.T.Knot.node l.entries d))
    (map (λ e. (g.T.Knot.node e).digest) (take l.entry-index l.entries))
