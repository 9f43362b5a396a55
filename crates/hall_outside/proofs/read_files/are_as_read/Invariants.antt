use Rattle.hall_outside.proofs.Imports.{AreUnchanged, drop}
use Rattle.hall_outside.proofs.read_files.are_as_read.Given as goal

-- where the rest is as it was read all are
abbrev pub invariant-loop-file : goal.invariant-loop-file
invariant-loop-file g l =
    AreUnchanged (g.L.LookBack.still l.names) (drop l.file-index l.files) →
    AreUnchanged (g.L.LookBack.still l.names) l.files
