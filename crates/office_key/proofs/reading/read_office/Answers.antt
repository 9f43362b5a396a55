use Rattle.office_key.proofs.OfficeTexts.{no_office, office_of_text}
use Rattle.office_key.proofs.reading.read_office.Goals as goal

pub returns-in-Ok : goal.returns-in-Ok
returns-in-Ok c =
    office_of_text c.args.bytes.now c.in-Ok.text c.office_in.result c.in-Ok.ensures.ok.0 c.in-Ok.ensures.ok.1
    c.office_in.ensures.found c.office_in.ensures.none

pub returns-in-Err : goal.returns-in-Err
returns-in-Err c = no_office c.args.bytes.now c.in-Err.ensures.err.1
