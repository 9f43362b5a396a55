use Rattle.office_commands.proofs.endorse.read_for.Goals as goal
use Rattle.office_commands.proofs.FileSteps.{file_last}
use Rattle.office_commands.proofs.Imports.{[], AtLast, file_ends, GivesBytes, max_signed, refl, unsigned_of}

pub returns-in-Ok : goal.returns-in-Ok
returns-in-Ok g c =
    let store = g.S.Store in
    file_last store (λ bytes. bytes.items) (GivesBytes max_signed c.args.file.now) c.args.file.now unsigned_of
    (λ bytes. record { office = c.args.office; bytes = bytes }) c.args.store.now c.read_bytes.new.store c.in-Ok.bytes _
    refl c.in-Ok.ensures

pub returns-in-Err : goal.returns-in-Err
returns-in-Err g c =
    let store = g.S.Store in
    file_ends store (λ bytes. bytes.items) (GivesBytes max_signed c.args.file.now) c.args.file.now unsigned_of
    (λ bytes. AtLast (record { office = c.args.office; bytes = bytes })) [] c.args.store.now
    c.read_bytes.new.store c.in-Err.fault c.in-Err.ensures
