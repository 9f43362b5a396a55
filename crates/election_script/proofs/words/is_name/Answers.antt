use Rattle.election_script.proofs.Named.{name_test}
use Rattle.std.specs.Bool.{one_answer}
use Rattle.election_script.proofs.words.is_name.Goals as goal

pub returns-clause-value : goal.returns-clause-value
returns-clause-value c = one_answer c.is_name.result _ c.is_name.ensures (name_test c.args.word.now)
