use Rattle.machine_floor.proofs.Imports.{◌≡◌, ◌++◌, into_iter_items}
use Rattle.machine_floor.proofs.gathering.add_all.Given as goal

-- those that were added, and the others
abbrev pub invariant-loop-loss : goal.invariant-loop-loss
invariant-loop-loss l =
    l.losses.items ++ into_iter_items l.loss-iterator ≡ l.fn.losses.items ++ l.fn.more.items
