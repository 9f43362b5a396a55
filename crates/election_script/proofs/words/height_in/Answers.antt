use Rattle.election_script.proofs.words.height_in.Goals as goal
use Rattle.election_script.proofs.{Imports.key_heights, Imports.◌∙◌, Named.height_is, Named.reads}

pub returns : goal.returns
returns c =
    let found = c.height_of_word.ensures in
    c.ok_or.ensures.value
    ∙ reads key_heights c.args.word.now _ (height_is c.args.word.now _ found.height found.known found.unknown)
