use Rattle.election_script.proofs.words.kind_in.Goals as goal
use Rattle.election_script.proofs.{Imports.key_kinds, Imports.◌∙◌, Named.kind_is, Named.reads}

pub returns : goal.returns
returns c =
    c.ok_or.ensures.value
    ∙ reads key_kinds c.args.word.now _ (kind_is c.args.word.now _ c.of_word.ensures.known c.of_word.ensures.unknown)
