use Rattle.live_auditor.proofs.Imports.{get_or_from_slice_get, map_more, SealedEntry, slice_get_within}
use Rattle.live_auditor.proofs.survivors.digests_of.Goals as goal

pub loop-i-preserved : goal.loop-i-preserved
loop-i-preserved c =
    let survivors = c.args.graph.now.survivors in
    let node = c.node.result.now in
    let within = slice_get_within survivors c.loop-i.i node c.node.ensures.value in
    let here = get_or_from_slice_get survivors c.loop-i.i node node c.node.ensures.value in
    rw (map_more (λ (e : SealedEntry). e.digest) survivors c.loop-i.i node within, here)
    (rw (c.in_ok-push.ensures.items, c.loop-i.invariant, c.digest.ensures))
