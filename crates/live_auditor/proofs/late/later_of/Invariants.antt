use Rattle.live_auditor.proofs.Imports.{from_stamp, take, ◌≡◌}
use Rattle.live_auditor.proofs.late.later_of.Given as goal

-- those of the entries so far
abbrev pub invariant-loop-entry : goal.invariant-loop-entry
invariant-loop-entry l = l.later.items ≡ from_stamp l.below (take l.entry-index l.entries)
