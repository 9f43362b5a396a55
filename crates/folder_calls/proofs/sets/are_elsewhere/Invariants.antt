use Rattle.std.proofs.Common.{drop}
use Rattle.folder_calls.specs.Asides.{AreElsewhere}
use Rattle.folder_calls.proofs.sets.are_elsewhere.Given as goal

-- where the rest is elsewhere all are
abbrev pub invariant-loop-file : goal.invariant-loop-file
invariant-loop-file l = AreElsewhere l.aside (drop l.file-index l.begun) → AreElsewhere l.aside l.begun
