use Rattle.log_repair.proofs.Mended.{running_machines_are_mended}
use Rattle.log_repair.proofs.laws.running_machines_are_mended.Goals as goal

pub returns : goal.returns
returns g c = running_machines_are_mended g.T.Knot.node
