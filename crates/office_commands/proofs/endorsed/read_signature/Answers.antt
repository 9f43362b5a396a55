use Rattle.office_commands.proofs.endorsed.read_signature.Goals as goal
use Rattle.office_commands.proofs.FileSteps.{file_last}
use Rattle.office_commands.proofs.Imports.{[], AtLast, file_ends, GivesBytes, max_small, refl, signed_of}

pub returns-in-Ok : goal.returns-in-Ok
returns-in-Ok g c =
    let store = g.S.Store in
    file_last store (λ bytes. bytes.items) (GivesBytes max_small c.args.signature.now) c.args.signature.now signed_of
    (λ s. record { key = c.args.key.items; bytes = c.args.bytes.items; signature = s }) c.args.store.now
    c.read_bytes.new.store c.in-Ok.signature _ refl c.in-Ok.ensures

pub returns-in-Err : goal.returns-in-Err
returns-in-Err g c =
    let store = g.S.Store in
    file_ends store (λ bytes. bytes.items) (GivesBytes max_small c.args.signature.now) c.args.signature.now signed_of
    (λ s. AtLast (record { key = c.args.key.items; bytes = c.args.bytes.items; signature = s })) []
    c.args.store.now c.read_bytes.new.store c.in-Err.fault c.in-Err.ensures
