use Rattle.office_key.proofs.OfficeTexts.{one_office}
use Rattle.office_key.proofs.laws.texts_have_one_office.Goals as goal

pub returns : goal.returns
returns c = one_office
