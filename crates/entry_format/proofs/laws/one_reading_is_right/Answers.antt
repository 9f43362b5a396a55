use Rattle.entry_format.proofs.Forms.{one_reading}
use Rattle.entry_format.proofs.laws.one_reading_is_right.Goals as goal

pub returns : goal.returns
returns c = one_reading
