use Rattle.roster.proofs.One.{one_reading}
use Rattle.roster.proofs.laws.one_reading_is_right.Goals as goal

pub returns : goal.returns
returns c = one_reading
