use Rattle.entangled_picture.proofs.OneMark.{each_has_one_mark}
use Rattle.entangled_picture.proofs.laws.each_finding_has_one_mark.Goals as goal

pub returns : goal.returns
returns c = each_has_one_mark
