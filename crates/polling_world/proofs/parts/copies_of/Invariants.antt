use Rattle.polling_world.proofs.Imports.{◌≡◌, replicate}
use Rattle.polling_world.proofs.parts.copies_of.Given as goal

-- the copies so far
abbrev pub invariant-loop-copy : goal.invariant-loop-copy
invariant-loop-copy l = l.copies.items ≡ replicate l._copy l.sealed
