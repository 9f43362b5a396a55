use Rattle.entangled_picture.proofs.Imports.{◌≡◌, drop, find, is_of_fork}
use Rattle.entangled_picture.proofs.marks.first_of_fork.Given as goal

-- none so far
abbrev pub invariant-loop-entry : goal.invariant-loop-entry
invariant-loop-entry l =
    find (is_of_fork l.fork) l.placed ≡ find (is_of_fork l.fork) (drop l.entry-index l.placed)
