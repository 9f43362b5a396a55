use Rattle.auditorium_core.proofs.OneAnswer.{one_answer}
use Rattle.auditorium_core.proofs.laws.one_answer_is_right.Goals as goal

pub returns : goal.returns
returns c = one_answer (assumption)
