use Rattle.live_auditor.proofs.Imports.{All-contains, All-more, arith, bytes_eq-Decides, SealedEntry, take_all, ◌≢◌}
use Rattle.live_auditor.proofs.seen.seen_among.Goals as goal

pub loop-other-preserved : goal.loop-other-preserved
loop-other-preserved c =
    let digest = c.digest.result.now in
    let other = c.digest-in-loop-other.result.now in
    All-more (λ (e : SealedEntry). e.digest ≢ c.args.entry.now.digest) c.args.entries.now c.loop-other.other-index
    c.other-item.result c.loop-other-test.true c.loop-other.invariant
    (rw (← c.other-item.is) (grind (arith, (bytes_eq-Decides digest other).1)))

pub returns : goal.returns
returns c g has =
    All-contains (λ (e : SealedEntry). e.digest ≢ c.args.entry.now.digest) c.args.entries.now g
    (rw (take_all c.loop-other.other-index c.args.entries.now c.loop-other-test.false) at c.loop-other.invariant) has
