use Rattle.log_repair.proofs.Plays.{histories_only_grow}
use Rattle.log_repair.proofs.laws.histories_only_grow.Goals as goal

pub returns : goal.returns
returns g c = histories_only_grow g.T.Knot.node
