use Rattle.live_auditor.proofs.Wide.{AreNarrow}
use Rattle.live_auditor.proofs.widths.first_too_wide.Given as goal

-- the rules so far aren't too wide
abbrev pub invariant-loop-place : goal.invariant-loop-place
invariant-loop-place l = AreNarrow l.rows l.rules l.place
