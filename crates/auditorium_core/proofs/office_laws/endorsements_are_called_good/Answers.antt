use Rattle.auditorium_core.proofs.OfficeNumbers.{called_good}
use Rattle.auditorium_core.proofs.office_laws.endorsements_are_called_good.Goals as goal

pub returns : goal.returns
returns c = called_good
