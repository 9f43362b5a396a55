use Rattle.finished_floor.proofs.Imports.{rules, always_returns_same, ◌≡◌}
use Rattle.finished_floor.proofs.sorting.sort_losses.Goals as goal
use Rattle.finished_floor.proofs.Sorted.{key_of, told_from_sorted, once_moved}

-- the closure computes the key
pub returns-clause-sorted : goal.returns-clause-sorted
returns-clause-sorted c =
    told_from_sorted c.sort_unstable_by_key.new.self.items
    (once_moved c.args.losses.now.items c.sort_unstable_by_key.new.self.items
    c.sort_unstable_by_key.ensures.permutation c.requires)
    (c.sort_unstable_by_key.ensures.sorted key_of
    (always_returns_same _ (λ a r. r ≡ key_of a.0.now) _ (λ a r q k. search rules)))
