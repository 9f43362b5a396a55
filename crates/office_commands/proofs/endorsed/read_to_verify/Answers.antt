use Rattle.office_commands.proofs.endorsed.read_to_verify.Goals as goal
use Rattle.office_commands.proofs.Imports.{[], AtLast, file_ends, file_joins, FileThen, GivesBytes, max_signed}
use Rattle.office_commands.proofs.Imports.{max_small, signed_of, ◌∷◌}

pub returns-in-Ok : goal.returns-in-Ok
returns-in-Ok g c =
    let store = g.S.Store in
    let file = c.args.file.now in
    let signature = c.args.signature.now in
    file_joins store (λ bytes. bytes.items) (GivesBytes max_small c.args.key.now) c.args.key.now signed_of
    (λ k. FileThen (GivesBytes max_signed file)
    (λ m. FileThen (GivesBytes max_small signature)
    (λ s. AtLast (record { key = k; bytes = m; signature = s })))) (file ∷ signature ∷ [])
    c.args.store.now c.read_bytes.new.store c.read_signed.new.store
    c.in-Ok.key c.read_signed.result c.in-Ok.ensures c.read_signed.ensures

pub returns-in-Err : goal.returns-in-Err
returns-in-Err g c =
    let store = g.S.Store in
    let file = c.args.file.now in
    let signature = c.args.signature.now in
    file_ends store (λ bytes. bytes.items) (GivesBytes max_small c.args.key.now) c.args.key.now signed_of
    (λ k. FileThen (GivesBytes max_signed file)
    (λ m. FileThen (GivesBytes max_small signature)
    (λ s. AtLast (record { key = k; bytes = m; signature = s })))) (file ∷ signature ∷ [])
    c.args.store.now c.read_bytes.new.store c.in-Err.fault c.in-Err.ensures
