use Rattle.live_auditor.proofs.Imports.{take, ◌≡◌}
use Rattle.live_auditor.proofs.borrowed.borrowed_with.Given as goal

-- the entries so far
abbrev pub invariant-loop-entry : goal.invariant-loop-entry
invariant-loop-entry l = l.borrowed.items ≡ take l.entry-index l.entries
