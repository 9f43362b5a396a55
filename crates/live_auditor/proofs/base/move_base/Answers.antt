use Rattle.live_auditor.proofs.base.move_base.Goals as goal
use Rattle.live_auditor.proofs.{Additions.in_lower, Imports.arith, Imports.lower, Imports.none_inside}

pub returns-then-stamp-base-clause-kept : goal.returns-then-stamp-base-clause-kept
returns-then-stamp-base-clause-kept c =
    let added = c.args.added.now in
    let none = none_inside (lower 0 added) (λ f has. omega (arith, (in_lower added 0 f has).1)) in
    rw (c.in_ok-base.ensures.low, none) c.in_ok-base.ensures.ok
