use Rattle.entry_format.proofs.Unsealings.{one_unsealing}
use Rattle.entry_format.proofs.laws.one_unsealing_is_right.Goals as goal

pub returns : goal.returns
returns c = one_unsealing
