use Rattle.office_key.proofs.OfficeTexts.{cut_text}
use Rattle.office_key.proofs.laws.cut_texts_are_no_offices.Goals as goal

pub returns : goal.returns
returns c = cut_text
