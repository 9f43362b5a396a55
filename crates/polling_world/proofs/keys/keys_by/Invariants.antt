use Rattle.polling_world.proofs.Imports.{◌≡◌, map, take, key_of}
use Rattle.polling_world.proofs.keys.keys_by.Given as goal

-- the keys so far
abbrev pub invariant-loop-cast : goal.invariant-loop-cast
invariant-loop-cast g l = l.keys.items ≡ map (key_of l.script) (take l.cast-index l.cast-items)
