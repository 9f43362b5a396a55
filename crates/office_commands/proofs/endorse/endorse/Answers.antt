use Rattle.office_commands.proofs.Imports.{[], ◌∷◌, Ok, office_file, GivesUnsigned, IsEndorsement, unsigned_of}
use Rattle.office_commands.proofs.Imports.{some_as_read}
use Rattle.office_commands.proofs.EndorseCommand.{endorse_is_there, unsigned_left}
use Rattle.command_line.proofs.Faults.{or_refused, or_answered}
use Rattle.office_commands.proofs.endorse.endorse.Goals as goal

pub returns-in-Err : goal.returns-in-Err
returns-in-Err g c =
    let name = c.args.name.now in
    let file = c.args.file.now in
    or_refused g.S.Store unsigned_of (office_file name ∷ file ∷ []) (GivesUnsigned name file) (IsEndorsement name file)
    c.args.store.now c.read_to_sign.new.store c.in-Err.fault c.of_fault.result c.in-Err.ensures c.of_fault.ensures.ok
    c.of_fault.ensures.err

pub returns-in_ok-signed-in-Ok : goal.returns-in_ok-signed-in-Ok
returns-in_ok-signed-in-Ok g c =
    let name = c.args.name.now in
    let file = c.args.file.now in
    let read = c.in-Ok.read in
    let answer = c.in_ok-signed-in-Ok.field-0 in
    or_answered g.S.Store unsigned_of (office_file name ∷ file ∷ []) (GivesUnsigned name file) (IsEndorsement name file)
    c.args.store.now c.read_to_sign.new.store read (Ok answer) c.in-Ok.ensures c.in_ok-signed-in-Ok.ensures
    (endorse_is_there name file (unsigned_of read) answer c.in_ok-signed-in-Ok.ensures) tt

pub endorse_by-requires-clause-left : goal.endorse_by-requires-clause-left
endorse_by-requires-clause-left g c =
    let name = c.args.name.now in
    let file = c.args.file.now in
    let read = unsigned_of c.in-Ok.read in
    let (files, gives) = some_as_read g.S.Store (office_file name ∷ file ∷ [])
    (λ files. GivesUnsigned name file files (Ok read)) c.args.store.now c.read_to_sign.new.store c.in-Ok.ensures.ok.0 in
    unsigned_left name file files read gives

pub signed-requires-clause-left : goal.signed-requires-clause-left
signed-requires-clause-left g c =
    let name = c.args.name.now in
    let file = c.args.file.now in
    let read = unsigned_of c.in-Ok.read in
    let (files, gives) = some_as_read g.S.Store (office_file name ∷ file ∷ [])
    (λ files. GivesUnsigned name file files (Ok read)) c.args.store.now c.read_to_sign.new.store c.in-Ok.ensures.ok.0 in
    unsigned_left name file files read gives
