use Rattle.live_auditor.proofs.Imports.{take, ◌≡◌}
use Rattle.live_auditor.proofs.survivors.links_of.Given as goal

-- the links so far
abbrev pub invariant-loop-i : goal.invariant-loop-i
invariant-loop-i l = l.links.items ≡ take l.i l.graph.links
