use Rattle.std.proofs.Common.{◌≡◌}
use Rattle.entry_order.specs.World.{start}
use Rattle.small_worlds.proofs.world.start.Given as goal

abbrev pub invariant-loop-place : goal.invariant-loop-place
invariant-loop-place g l = l.machines.items ≡ start l._place
