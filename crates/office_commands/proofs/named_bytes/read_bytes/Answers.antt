use Rattle.office_commands.proofs.Imports.{inr, refl, Ok, was_read, not_read, stands, GivesBytes}
use Rattle.office_commands.proofs.FileSteps.{long_bytes}
use Rattle.office_commands.proofs.named_bytes.read_bytes.Goals as goal

pub returns-in-Ok : goal.returns-in-Ok
returns-in-Ok g c =
    let store = g.S.Store in
    let given = c.in-Ok.ensures in
    was_read store (λ bytes. bytes.items) (GivesBytes c.args.limit c.args.name.now) c.args.name.now c.args.limit
    c.args.store.now c.read_file.new.store c.in-Ok.bytes.items (Ok c.in-Ok.bytes) given.ok.1
    (inr (given.ok.0, refl)) tt tt (λ more. let no = given.absent.always more in cc)
    (stands (store.read_faults c.args.store.now) (store.read_faults c.read_file.new.store) given.read_fault (λ e. cc))
    (record { absences = given.absences; files = given.unchanged.0; write_faults = given.unchanged.1 })

pub returns-in-Err : goal.returns-in-Err
returns-in-Err g c =
    let store = g.S.Store in
    let given = c.in-Err.ensures in
    not_read store (λ bytes. bytes.items) (GivesBytes c.args.limit c.args.name.now) c.args.name.now c.args.limit
    c.args.store.now c.read_file.new.store c.in-Err.fault c.file_fault.result refl
    (long_bytes c.args.limit c.args.name.now) c.file_fault.ensures given.err given.absent given.read_fault
    (record { absences = given.absences; files = given.unchanged.0; write_faults = given.unchanged.1 })
