use Rattle.small_worlds.proofs.paths.+leads.Given as goal
use Rattle.small_worlds.specs.inside.Paths.{is_next, leads}
use Rattle.std.proofs.Common.{drop, ◌-◌, ◌≡◌}
use Rattle.std.specs.{List.list_any, Prelude.◌&&◌}

abbrev pub decreases-leads : goal.decreases-leads
decreases-leads g l = l.between

-- none of those gone past lies on a path
abbrev pub invariant-loop-middle : goal.invariant-loop-middle
invariant-loop-middle g l =
    list_any (λ m. is_next g.T.Knot.node l.given l.first m && leads g.T.Knot.node l.given (l.between - 1) m l.second)
    (drop l.middle-index l.given)
    ≡ list_any
    (λ m. is_next g.T.Knot.node l.given l.first m && leads g.T.Knot.node l.given (l.between - 1) m l.second) l.given
