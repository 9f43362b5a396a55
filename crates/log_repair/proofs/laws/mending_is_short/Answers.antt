use Rattle.log_repair.proofs.Short.{mending_is_short}
use Rattle.log_repair.proofs.laws.mending_is_short.Goals as goal

pub returns : goal.returns
returns g c = mending_is_short g.T.Knot.node
