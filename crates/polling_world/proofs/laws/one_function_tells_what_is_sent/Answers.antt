use Rattle.polling_world.proofs.NextTold.{next_of, tells_next, tells_same}
use Rattle.polling_world.proofs.laws.one_function_tells_what_is_sent.Goals as goal

pub returns-clause-some : goal.returns-clause-some
returns-clause-some c = λ configs. (next_of configs, tells_next configs)

pub returns-clause-one : goal.returns-clause-one
returns-clause-one c = tells_same
