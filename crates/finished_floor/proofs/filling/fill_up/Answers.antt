use Rattle.finished_floor.proofs.filling.fill_up.Goals as goal
use Rattle.finished_floor.proofs.{Filled.filled_more, Imports.arith, Imports.None}

pub loop-preserved : goal.loop-preserved
loop-preserved c = record {
  begun = let l = c.loop.invariant.begun in omega arith;
  items = filled_more c.args.row.now.items None c.loop.row.items c.push.new.self.items c.loop.counter
      c.loop.invariant.begun c.loop.invariant.items c.in_ok-push.ensures.items;
}
