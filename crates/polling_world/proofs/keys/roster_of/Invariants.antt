use Rattle.polling_world.proofs.Imports.{◌≡◌, map, take, post_of}
use Rattle.polling_world.proofs.keys.roster_of.Given as goal

-- the machines so far
abbrev pub invariant-loop-at : goal.invariant-loop-at
invariant-loop-at l = l.machines.items ≡ map (post_of l.script) (take l.at l.script.machines)
