use Rattle.std.proofs.Common.{◌≡◌, length, map}
use Rattle.held_counts.specs.inside.Counts.{spread_times}
use Rattle.held_counts.proofs.counting.spread_rounds.Given as goal

abbrev pub invariant-loop-round : goal.invariant-loop-round
invariant-loop-round g l = record {
  so_far : l.counts ≡ spread_times g.M.Entry.Knot.node l._round (map g.M.Recorder.machine l.machines) l.fn.counts;
  as_long : length l.counts ≡ length l.machines;
}
