use Rattle.std.proofs.Common.{◌≡◌, ◌≤◌, drop, length}
use Rattle.entry_order.specs.Ascending.{ascending}
use Rattle.small_worlds.proofs.digests.ascending.Given as goal

-- those from here on are in order
abbrev pub invariant-loop-left : goal.invariant-loop-left
invariant-loop-left l = record {
  so_far : l.sorted.items ≡ ascending (drop l.left l.digests);
  within : l.left ≤ length l.digests;
}

abbrev pub decreases-loop-left : goal.decreases-loop-left
decreases-loop-left l = l.left
