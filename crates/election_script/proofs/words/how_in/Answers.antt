use Rattle.election_script.proofs.Imports.{ap, how_names, named, None, Some, sym, ◌∙◌}
use Rattle.election_script.proofs.Named.{how_named, none_named, reads, some_how}
use Rattle.election_script.proofs.words.how_in.Goals as goal

pub returns-in_default : goal.returns-in_default
returns-in_default c =
    reads how_names c.args.word.now None (sym (none_named (named how_names c.args.word.now)
    (λ how is. c.in_default.ensures how (how_named c.args.word.now how is))))

pub returns : goal.returns
returns c = reads how_names c.args.word.now (Some _) (sym (ap (named how_names) c.in-Some.ensures ∙ some_how _))
