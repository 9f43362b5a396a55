use Rattle.hall_outside.proofs.Imports.{AreElsewhere, drop}
use Rattle.hall_outside.proofs.begun_files.is_elsewhere.Given as goal

-- where the rest is elsewhere all are
abbrev pub invariant-loop-file : goal.invariant-loop-file
invariant-loop-file l = AreElsewhere l.other_name (drop l.file-index l.begun) → AreElsewhere l.other_name l.begun
