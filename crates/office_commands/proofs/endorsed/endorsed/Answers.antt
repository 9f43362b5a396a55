use Rattle.office_commands.proofs.Imports.{[], ◌∷◌, Ok, GivesSigned, IsEndorsedVerdict, signed_of}
use Rattle.command_line.proofs.Faults.{or_refused, or_answered}
use Rattle.office_commands.proofs.endorsed.endorsed.Goals as goal

pub returns-in-Err : goal.returns-in-Err
returns-in-Err g c =
    let key = c.args.key.now in
    let file = c.args.file.now in
    let signature = c.args.signature.now in
    or_refused g.S.Store signed_of (key ∷ file ∷ signature ∷ []) (GivesSigned key file signature) IsEndorsedVerdict
    c.args.store.now c.read_to_verify.new.store c.in-Err.fault c.of_fault.result c.in-Err.ensures
    c.of_fault.ensures.ok c.of_fault.ensures.err

pub returns-in_ok-verdict_of-in-Ok : goal.returns-in_ok-verdict_of-in-Ok
returns-in_ok-verdict_of-in-Ok g c =
    let key = c.args.key.now in
    let file = c.args.file.now in
    let signature = c.args.signature.now in
    or_answered g.S.Store signed_of (key ∷ file ∷ signature ∷ []) (GivesSigned key file signature) IsEndorsedVerdict
    c.args.store.now c.read_to_verify.new.store c.in-Ok.read (Ok c.in_ok-verdict_of-in-Ok.field-0) c.in-Ok.ensures
    c.in_ok-verdict_of-in-Ok.ensures.told c.in_ok-verdict_of-in-Ok.ensures.status tt
