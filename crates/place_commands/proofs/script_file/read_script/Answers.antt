use Rattle.place_commands.proofs.Imports.{refl, was_read, not_read, stands, max_script, GivesScript}
use Rattle.place_commands.proofs.ScriptFiles.{itself, long_script}
use Rattle.place_commands.proofs.script_file.read_script.Goals as goal

pub returns-in-Ok-clause-read : goal.returns-in-Ok-clause-read
returns-in-Ok-clause-read g c =
    let store = g.S.Store in
    let old = c.args.store.now in
    let new = c.read_file.new.store in
    let given = c.in-Ok.ensures in
    was_read store itself (GivesScript c.args.name.now) c.args.name.now max_script old new c.in-Ok.bytes.items
    c.script_of.result given.ok.1 (rw c.as_slice.ensures.value at c.script_of.ensures.ok)
    (rw c.as_slice.ensures.value at c.script_of.ensures.err) c.script_of.ensures.only
    (λ more. let no = given.absent.always more in cc)
    (stands (store.read_faults old) (store.read_faults new) given.read_fault (λ e. cc))
    (record { absences = given.absences; files = given.unchanged.0; write_faults = given.unchanged.1 })

pub returns-in-Err-clause-read : goal.returns-in-Err-clause-read
returns-in-Err-clause-read g c =
    let store = g.S.Store in
    let old = c.args.store.now in
    let new = c.read_file.new.store in
    let given = c.in-Err.ensures in
    not_read store itself (GivesScript c.args.name.now) c.args.name.now max_script old new c.in-Err.fault
    c.file_fault.result refl (long_script c.args.name.now) c.file_fault.ensures given.err given.absent given.read_fault
    (record { absences = given.absences; files = given.unchanged.0; write_faults = given.unchanged.1 })
