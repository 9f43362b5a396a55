use Rattle.std.proofs.Common.{◌≡◌, drop, IsTrue}
use Rattle.held_counts.specs.inside.Counts.{taken_in}
use Rattle.held_counts.proofs.counting.take_in.Given as goal

abbrev pub invariant-loop-event : goal.invariant-loop-event
invariant-loop-event g l = record {
  rest : taken_in g.T.Knot.node (drop l.event-index l.history) l.left l.counts
      ≡ taken_in g.T.Knot.node l.history l.fn.number l.fn.counts;
  same : ¬ IsTrue l.any → l.counts ≡ l.fn.counts;
}
