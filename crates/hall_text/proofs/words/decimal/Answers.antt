use Rattle.hall_text.proofs.Numbers.{number_is}
use Rattle.hall_text.proofs.words.decimal.Goals as goal

pub returns-clause-value : goal.returns-clause-value
returns-clause-value c = number_is c.args.word.now c.number_of.result c.number_of.ensures
