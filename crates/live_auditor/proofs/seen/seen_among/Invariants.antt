use Rattle.live_auditor.proofs.Imports.{All, SealedEntry, take, ◌≢◌}
use Rattle.live_auditor.proofs.seen.seen_among.Given as goal

-- none of the entries so far has the digest
abbrev pub invariant-loop-other : goal.invariant-loop-other
invariant-loop-other l = All (λ (e : SealedEntry). e.digest ≢ l.entry.digest) (take l.other-index l.entries)
