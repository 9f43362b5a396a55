use Rattle.finished_floor.proofs.laws.each_is_heard_or_lost.Goals as goal
use Rattle.finished_floor.proofs.Once.{each_is_heard_or_lost}

pub returns : goal.returns
returns g c = each_is_heard_or_lost g.T.Knot.node
