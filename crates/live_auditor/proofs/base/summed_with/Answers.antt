use Rattle.live_auditor.proofs.Imports.{arith, sym, ◌∙◌}
use Rattle.live_auditor.proofs.{Additions.given_live, Additions.given_more, AfterBase.lower_all, AfterBase.lower_more}
use Rattle.live_auditor.proofs.base.summed_with.Goals as goal

pub move_base-requires-clause-given : goal.move_base-requires-clause-given
move_base-requires-clause-given c = given_live _ c.requires.kept.live

pub summed_from-requires-clause-given : goal.summed_from-requires-clause-given
summed_from-requires-clause-given c =
    rw c.in_ok-entries.ensures
    (given_more c.args.entry.now (given_live _ c.requires.kept.live) c.requires.machine c.requires.room)

pub summed_from-requires-clause-first : goal.summed_from-requires-clause-first
summed_from-requires-clause-first c =
    let added = c.args.added.now in
    let stamp = c.entry.result.now.stamp in
    let others = lower_more stamp added c.args.entry.now (rw c.entry.ensures.value (omega arith)) in
    let all = lower_all stamp added (sym c.is_latest.ensures ∙ c.if-is_latest.true) in
    rw (c.in_ok-entries.ensures, others, all)
    (record { after = c.requires.kept.live.after; survivors = c.requires.kept.survivors })

pub summed_from-requires-2-clause-given : goal.summed_from-requires-2-clause-given
summed_from-requires-2-clause-given c =
    rw c.in_ok-entries.ensures
    (given_more c.args.entry.now (given_live _ c.requires.kept.live) c.requires.machine c.requires.room)

pub summed_from-requires-2-clause-first : goal.summed_from-requires-2-clause-first
summed_from-requires-2-clause-first c =
    let past = rw c.entry.ensures.value at c.in_ok-move_base.ensures.above in
    rw (c.in_ok-entries.ensures, lower_more c.move_base.new.base.below c.args.added.now c.args.entry.now past)
    c.in_ok-move_base.ensures.kept
