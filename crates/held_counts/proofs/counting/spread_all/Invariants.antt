use Rattle.std.proofs.Common.{◌≡◌, drop, length, map, IsTrue}
use Rattle.held_counts.specs.inside.Counts.{spread}
use Rattle.held_counts.proofs.counting.spread_all.Given as goal

abbrev pub invariant-loop-place : goal.invariant-loop-place
invariant-loop-place g l = record {
  rest : spread g.M.Entry.Knot.node (map g.M.Recorder.machine (drop l.place l.machines)) l.place l.counts
      ≡ spread g.M.Entry.Knot.node (map g.M.Recorder.machine l.machines) 0 l.fn.counts;
  as_long : length l.counts ≡ length l.machines;
  same : ¬ IsTrue l.any → l.counts ≡ l.fn.counts;
}
