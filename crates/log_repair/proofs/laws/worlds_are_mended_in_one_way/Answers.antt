use Rattle.log_repair.proofs.OneWay.{worlds_are_mended_in_one_way}
use Rattle.log_repair.proofs.laws.worlds_are_mended_in_one_way.Goals as goal

pub returns : goal.returns
returns g c = worlds_are_mended_in_one_way g.T.Knot.node
