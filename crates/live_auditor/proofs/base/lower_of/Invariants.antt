use Rattle.live_auditor.proofs.Imports.{lower, take, ◌≡◌}
use Rattle.live_auditor.proofs.base.lower_of.Given as goal

-- those of the entries so far
abbrev pub invariant-loop-entry : goal.invariant-loop-entry
invariant-loop-entry l = l.entries.items ≡ lower l.below (take l.entry-index l.added)
