use Rattle.std.specs.Prelude.{IsTrue}
use Rattle.item_list.proofs.Rows.{one_first}
use Rattle.booth_core.specs.Table.{causes_of}
use Rattle.booth_core.proofs.Answered.{answered}
use Rattle.booth_core.proofs.laws.each_deed_has_one_answer.Goals as goal

pub returns-clause-some : goal.returns-clause-some
returns-clause-some c = λ owner entries whole deed.
    answered owner entries (IsTrue whole) whole deed (λ yes. yes, λ is. is)

pub returns-clause-one : goal.returns-clause-one
returns-clause-one c = λ owner entries whole deed answer other first second.
    one_first (causes_of owner entries (IsTrue whole) deed) answer other first second
