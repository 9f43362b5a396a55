use Rattle.office_commands.proofs.Imports.{refl, Office, was_read, not_read, stands, max_small, GivesOffice}
use Rattle.office_commands.proofs.EndorseCommand.{long_office}
use Rattle.office_commands.proofs.office_file.read_office_file.Goals as goal

pub returns-in-Ok : goal.returns-in-Ok
returns-in-Ok g c =
    let store = g.S.Store in
    let given = c.in-Ok.ensures in
    was_read store (λ (office : Office). office) (GivesOffice c.args.file.now) c.args.file.now max_small
    c.args.store.now c.read_file.new.store c.in-Ok.bytes.items c.office_of.result given.ok.1
    (rw (← c.as_slice.ensures.value) c.office_of.ensures.ok)
    (rw (← c.as_slice.ensures.value) c.office_of.ensures.err) c.office_of.ensures.only
    (λ more. let no = given.absent.always more in cc)
    (stands (store.read_faults c.args.store.now) (store.read_faults c.read_file.new.store) given.read_fault (λ e. cc))
    (record { absences = given.absences; files = given.unchanged.0; write_faults = given.unchanged.1 })

pub returns-in-Err : goal.returns-in-Err
returns-in-Err g c =
    let store = g.S.Store in
    let given = c.in-Err.ensures in
    not_read store (λ (office : Office). office) (GivesOffice c.args.file.now) c.args.file.now max_small
    c.args.store.now c.read_file.new.store c.in-Err.fault c.file_fault.result refl (long_office c.args.file.now)
    c.file_fault.ensures given.err given.absent given.read_fault
    (record { absences = given.absences; files = given.unchanged.0; write_faults = given.unchanged.1 })
