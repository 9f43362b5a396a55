use Rattle.office_commands.proofs.endorsed.read_signed.Goals as goal
use Rattle.office_commands.proofs.Imports.{[], AtLast, file_ends, file_joins, FileThen, GivesBytes, max_signed}
use Rattle.office_commands.proofs.Imports.{max_small, signed_of, ◌∷◌}

pub returns-in-Ok : goal.returns-in-Ok
returns-in-Ok g c =
    let store = g.S.Store in
    let signature = c.args.signature.now in
    file_joins store (λ bytes. bytes.items) (GivesBytes max_signed c.args.file.now) c.args.file.now signed_of
    (λ m. FileThen (GivesBytes max_small signature)
    (λ s. AtLast (record { key = c.args.key.items; bytes = m; signature = s }))) (signature ∷ [])
    c.args.store.now c.read_bytes.new.store c.read_signature.new.store
    c.in-Ok.bytes c.read_signature.result c.in-Ok.ensures c.read_signature.ensures

pub returns-in-Err : goal.returns-in-Err
returns-in-Err g c =
    let store = g.S.Store in
    let signature = c.args.signature.now in
    file_ends store (λ bytes. bytes.items) (GivesBytes max_signed c.args.file.now) c.args.file.now signed_of
    (λ m. FileThen (GivesBytes max_small signature)
    (λ s. AtLast (record { key = c.args.key.items; bytes = m; signature = s }))) (signature ∷ [])
    c.args.store.now c.read_bytes.new.store c.in-Err.fault c.in-Err.ensures
