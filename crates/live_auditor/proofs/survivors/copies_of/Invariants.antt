use Rattle.live_auditor.proofs.Imports.{take, ◌≡◌}
use Rattle.live_auditor.proofs.survivors.copies_of.Given as goal

-- the links so far
abbrev pub invariant-loop-link : goal.invariant-loop-link
invariant-loop-link l = l.copies.items ≡ take l.link-index l.links
