use Rattle.live_auditor.proofs.Imports.{map, SealedEntry, take, ◌≡◌}
use Rattle.live_auditor.proofs.survivors.digests_of.Given as goal

-- the digests so far
abbrev pub invariant-loop-i : goal.invariant-loop-i
invariant-loop-i l = l.digests.items ≡ map (λ (e : SealedEntry). e.digest) (take l.i l.graph.survivors)
