use Rattle.entangled_picture.proofs.Imports.{◌≡◌, take, last_of_fork}
use Rattle.entangled_picture.proofs.marks.last_of_fork.Given as goal

-- the last so far
abbrev pub invariant-loop-entry : goal.invariant-loop-entry
invariant-loop-entry l = l.last ≡ last_of_fork l.fork (take l.entry-index l.placed)
