use Rattle.roster.proofs.Forms.{one_roster}
use Rattle.roster.proofs.laws.texts_have_one_roster.Goals as goal

pub returns : goal.returns
returns c = λ text machines others is also. one_roster text machines others is also
