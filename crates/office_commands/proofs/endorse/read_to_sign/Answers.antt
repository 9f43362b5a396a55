use Rattle.office_commands.proofs.Imports.{List, ℕ, [], ◌∷◌, subst, Ok, Err, Office, IsReadFromFile, AtLast, FileThen}
use Rattle.office_commands.proofs.Imports.{GivesBytes, max_signed, GivesOffice, office_file, unsigned_of}
use Rattle.office_commands.proofs.Imports.{file_ends, file_joins}
use Rattle.office_commands.proofs.endorse.read_to_sign.Goals as goal

pub returns-in-Ok : goal.returns-in-Ok
returns-in-Ok g c =
    let store = g.S.Store in
    let old = c.args.store.now in
    let mid = c.read_office_file.new.store in
    let file = c.args.file.now in
    let P : List ℕ → Type 0 = λ n.
    IsReadFromFile store (λ (office : Office). office) n (GivesOffice n) old (Ok c.in-Ok.found) mid in
    file_joins store (λ (office : Office). office) (GivesOffice (office_file c.args.name.now))
    (office_file c.args.name.now) unsigned_of
    (λ (office : Office). FileThen (GivesBytes max_signed file)
    (λ bytes. AtLast (record { office = office; bytes = bytes }))) (file ∷ []) old mid c.read_for.new.store
    c.in-Ok.found c.read_for.result (subst P c.requires c.in-Ok.ensures) c.read_for.ensures

pub returns-in-Err : goal.returns-in-Err
returns-in-Err g c =
    let store = g.S.Store in
    let old = c.args.store.now in
    let new = c.read_office_file.new.store in
    let file = c.args.file.now in
    let P : List ℕ → Type 0 = λ n.
    IsReadFromFile store (λ (office : Office). office) n (GivesOffice n) old (Err c.in-Err.fault) new in
    file_ends store (λ (office : Office). office) (GivesOffice (office_file c.args.name.now))
    (office_file c.args.name.now) unsigned_of
    (λ (office : Office). FileThen (GivesBytes max_signed file)
    (λ bytes. AtLast (record { office = office; bytes = bytes }))) (file ∷ []) old new c.in-Err.fault
    (subst P c.requires c.in-Err.ensures)
