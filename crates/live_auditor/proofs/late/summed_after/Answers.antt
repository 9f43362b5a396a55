use Rattle.live_auditor.proofs.Imports.{All-filter, All-permutation, from_stamp, IsOfMachine, nat_le, SealedEntry}
use Rattle.live_auditor.proofs.AfterBase.{tail_growth, tail_summed, three_said}
use Rattle.live_auditor.proofs.late.summed_after.Goals as goal

pub tail_of-requires : goal.tail_of-requires
tail_of-requires c =
    let OfThese = IsOfMachine c.args.roster.now.machines in
    let high = from_stamp c.args.below c.args.entries.now in
    let all = All-filter (λ (e : SealedEntry). nat_le c.args.below e.entry.stamp) OfThese c.args.entries.now
    c.requires.given.of_machines in
    rw c.as_slice.ensures.value (λ k d within.
    (All-permutation OfThese high c.in_ok-later.later.items c.in_ok-later.ensures all k d within).maker)

pub judged_after-requires : goal.judged_after-requires
judged_after-requires c =
    tail_growth c.args.below c.requires.given c.args.first.now c.requires.first c.in_ok-later.later.items
    c.in_ok-later.ensures c.in-Some.tail (rw (c.in-Some.is, c.as_slice.ensures.value) at c.in_ok-tail.ensures)

pub returns-in-Some : goal.returns-in-Some
returns-in-Some c =
    three_said c.judged_after.result (tail_summed c.args.below c.requires.given c.args.first.now c.requires.first
    c.in_ok-later.later.items c.in_ok-later.ensures c.in-Some.tail
    (rw (c.in-Some.is, c.as_slice.ensures.value) at c.in_ok-tail.ensures)) c.judged_after.ensures.said
    c.judged_after.ensures.judged c.judged_after.ensures.kept
