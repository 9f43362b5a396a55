use Rattle.std.proofs.Common.{◌≡◌, ◌∙◌, sym, ap, map, arith, true≢false}
use Rattle.held_counts.specs.inside.Counts.{spread}
use Rattle.held_counts.proofs.Rounds.{spread_times_fixed}
use Rattle.held_counts.proofs.counting.spread_rounds.Goals as goal

-- the round raised nothing, so no later one does
pub returns-then-not-spread_all : goal.returns-then-not-spread_all
returns-then-not-spread_all g c =
    let node = g.M.Entry.Knot.node in
    let w = map g.M.Recorder.machine c.args.machines.now in
    let kept : c.spread_all.new.counts ≡ c.loop-round.counts =
    c.spread_all.ensures.same (λ t. true≢false (sym t ∙ c.if-not-spread_all.true)) in
    let so_far = c.loop-round.invariant.so_far in
    let fixed = ap (spread node w 0) (sym so_far) ∙ sym c.spread_all.ensures.counts ∙ kept ∙ so_far in
    kept ∙ so_far
    ∙ sym (spread_times_fixed node w c.args.counts.now c.loop-round._round c.args.rounds fixed (omega arith))
