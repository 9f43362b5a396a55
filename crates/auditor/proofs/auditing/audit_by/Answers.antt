use Rattle.auditor.proofs.Imports.{map, string_bytes}
use Rattle.auditor.proofs.auditing.audit_by.Goals as goal

pub finish-requires : goal.finish-requires
finish-requires g c = (c.begin.new.store, c.read_logs_by-read.new.store, c.read_logs_by-read.ensures)

pub returns-in-Ok : goal.returns-in-Ok
returns-in-Ok g c =
    let mid = c.begin.new.store in
    let new = c.read_logs_by-read.new.store in
    c.in-Ok.ensures (map string_bytes c.args.logs.now) c.finish.result new
    (c.finish.ensures mid new c.read_logs_by-read.ensures)

pub returns-in-Err : goal.returns-in-Err
returns-in-Err g c = c.in-Err.ensures (map string_bytes c.args.logs.now)
