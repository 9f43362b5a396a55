use Rattle.item_list.proofs.Rows.{one_first}
use Rattle.supervisor_core.specs.Table.{causes_of}
use Rattle.supervisor_core.proofs.Answered.{answered}
use Rattle.supervisor_core.proofs.laws.each_deed_has_one_answer.Goals as goal

pub returns-clause-some : goal.returns-clause-some
returns-clause-some c = answered

pub returns-clause-one : goal.returns-clause-one
returns-clause-one c = λ owner entries deed answer other first second.
    one_first (causes_of owner entries deed) answer other first second
