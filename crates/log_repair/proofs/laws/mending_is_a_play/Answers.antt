use Rattle.log_repair.proofs.Plays.{mending_is_a_play}
use Rattle.log_repair.proofs.laws.mending_is_a_play.Goals as goal

pub returns : goal.returns
returns g c = mending_is_a_play g.T.Knot.node
