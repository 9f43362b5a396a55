use Rattle.std.proofs.Common.{◌∙◌}
use Rattle.entry_order.proofs.Held.{greatest_stamp_held}
use Rattle.held_counts.proofs.stamps.clock.Goals as goal

pub returns : goal.returns
returns g c = c.greatest_stamp.ensures ∙ greatest_stamp_held g.T.Knot.node c.args.history.now
