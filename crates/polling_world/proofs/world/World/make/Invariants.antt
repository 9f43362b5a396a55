use Rattle.polling_world.proofs.WorldMaking.{AreFirst}
use Rattle.polling_world.proofs.world.World.make.Given as goal

abbrev pub invariant-loop-key : goal.invariant-loop-key
invariant-loop-key l = AreFirst l.script l.machines.items l.key-iterator.rest.items
