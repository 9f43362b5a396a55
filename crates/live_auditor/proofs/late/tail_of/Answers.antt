use Rattle.live_auditor.proofs.Imports.{length, refl, slice_get_read, take_all}
use Rattle.live_auditor.proofs.AfterBase.{followed_more, followed_none}
use Rattle.live_auditor.proofs.late.tail_of.Goals as goal

pub loop-entry-init : goal.loop-entry-init
loop-entry-init c =
    followed_none c.args.first.now c.in_ok-tail.tail c.in_ok-tail.ensures.kept c.in_ok-tail.ensures.gaps
    c.in_ok-tail.ensures.above

pub loop-entry-preserved : goal.loop-entry-preserved
loop-entry-preserved c given graph is can =
    let later = c.args.later.now in
    let i = c.loop-entry.entry-index in
    followed_more can i (c.in_ok-push.ensures c.if-not-branch.false) (c.loop-entry.invariant given graph is can)
    (rw c.sealed-sealed.ensures (slice_get_read later (length later) i _ refl c.loop-entry-test.true c.entry-item.is))
    c.row_of.ensures

pub returns : goal.returns
returns c given graph is can =
    rw (take_all c.loop-entry.entry-index c.args.later.now c.loop-entry-test.false) at
    (c.loop-entry.invariant given graph is can)
