use Rattle.std.proofs.Common.{◌∙◌, arith}
use Rattle.crossbeam_queue.specs.Passes.{view}
use Rattle.broadcast_queues.proofs.Steps.{rests, learns_rest, rest_moves}
use Rattle.broadcast_queues.proofs.link.take_rest.Goals as goal

pub pop_as-requires-clause-rule : goal.pop_as-requires-clause-rule
pop_as-requires-clause-rule g c = (
  rests g.T.Parcel.from g.T.Parcel.number _ _ c.loop.invariant.puts c.loop.invariant.takes,
  learns_rest g.T.Parcel.from g.T.Parcel.number _ _ c.loop.invariant.puts c.loop.invariant.takes,
)

pub loop-preserved : goal.loop-preserved
loop-preserved g c =
    let was = c.loop.invariant in
    let same = c.in-Some.ensures.queue in
    let (left, in_order, length_left) = was.ahead in
    let (puts, takes, put, taken, (rest, rest_order, length_rest)) =
    rest_moves g.T.Parcel.from g.T.Parcel.number (view c.args.pass) (view c.loop.pass) (view c.pop_as.new.pass)
    c.in-Some.item c.loop.room.items left c.push_reserved.new.self.items c.in-Some.ensures.rule was.put was.taken
    in_order c.push_reserved.ensures.items in
    record {
      pass = (same.0 ∙ was.pass.0, same.2 ∙ was.pass.1);
      puts = puts ∙ was.puts;
      takes = takes ∙ was.takes;
      put = put;
      taken = taken;
      ahead = (rest, rest_order, omega (arith, length_rest, length_left));
      count = omega (arith, c.push_reserved.ensures.len, was.count);
      room = omega (arith, c.push_reserved.ensures.capacity, was.room);
    }
