use Rattle.entangled_picture.proofs.Imports.{◌≡◌, ◌++◌, take, forks_of}
use Rattle.entangled_picture.proofs.marks.add_forks.Given as goal

-- the marks so far
abbrev pub invariant-loop-fork : goal.invariant-loop-fork
invariant-loop-fork l = l.shapes.items ≡ l.fn.shapes.items ++ forks_of l.placed (take l.fork-index l.forks)
