use Rattle.std.proofs.Common.{◌∙◌}
use Rattle.entry_order.proofs.Held.{has_digest_held}
use Rattle.small_worlds.proofs.history.holds.Goals as goal

pub returns : goal.returns
returns g c = c.has_digest.ensures ∙ has_digest_held g.T.Knot.node c.args.history.now c.args.digest.now
