use Rattle.hall_outside.proofs.Imports.{drop, number_of, ◌≡◌}
use Rattle.hall_outside.proofs.begun_files.number_of.Given as goal

abbrev pub invariant-loop-file : goal.invariant-loop-file
invariant-loop-file l = number_of (drop l.file-index l.begun) l.name ≡ number_of l.begun l.name
