use Rattle.std.proofs.Common.{◌≡◌, ◌++◌, drop}
use Rattle.entry_order.specs.World.{sent_in}
use Rattle.small_worlds.proofs.world.all_sent.Given as goal

abbrev pub invariant-loop-machine : goal.invariant-loop-machine
invariant-loop-machine g l = l.entries.items ++ sent_in (drop l.machine-index l.machines) ≡ sent_in l.machines
