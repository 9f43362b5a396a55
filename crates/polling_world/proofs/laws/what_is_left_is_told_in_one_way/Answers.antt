use Rattle.polling_world.proofs.OneLeft.{one_left}
use Rattle.polling_world.proofs.laws.what_is_left_is_told_in_one_way.Goals as goal

pub returns : goal.returns
returns c = one_left
