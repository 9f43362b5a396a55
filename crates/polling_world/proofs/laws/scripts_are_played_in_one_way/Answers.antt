use Rattle.polling_world.proofs.OnePlay.{one_play}
use Rattle.polling_world.proofs.laws.scripts_are_played_in_one_way.Goals as goal

pub returns : goal.returns
returns c = one_play
