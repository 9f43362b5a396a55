use Rattle.election_script.proofs.Imports.{ap, named, None, role_names, Some, sym, ◌∙◌}
use Rattle.election_script.proofs.Named.{none_named, reads, role_named, some_role}
use Rattle.election_script.proofs.words.role_in.Goals as goal

pub returns-in_default : goal.returns-in_default
returns-in_default c =
    reads role_names c.args.word.now None (sym (none_named (named role_names c.args.word.now)
    (λ role is. c.in_default.ensures role (role_named c.args.word.now role is))))

pub returns : goal.returns
returns c = reads role_names c.args.word.now (Some _) (sym (ap (named role_names) c.in-Some.ensures ∙ some_role _))
