use Rattle.office_commands.proofs.Imports.{◌≡◌, rules, endorse_answer, unsigned_of}
use Rattle.office_commands.proofs.endorse.signed.Goals as goal

pub returns : goal.returns
returns c =
    let name = c.args.name.now in
    let read = c.args.read.now in
    let told : c.of_files_in_turn.result ≡ endorse_answer name c.args.file.now (unsigned_of read) = search rules in
    record {
      good = c.endorsements_are_good.ensures name read.bytes.items read.office c.requires.left;
      told = told;
    }
