use Rattle.polling_world.proofs.Imports.{◌≡◌, map, take}
use Rattle.polling_world.proofs.merging.steps_of.Given as goal

-- the steps so far
abbrev pub invariant-loop-one : goal.invariant-loop-one
invariant-loop-one l = l.steps.items ≡ map (λ r. r.step) (take l.one-index l.ranked)
