use Rattle.hss_sign.proofs.InTurn.{leaves_sign_once, none_after, numbers_rise_by_one, spent_exactly}
use Rattle.hss_sign.proofs.laws.numbers_rise_by_one.Goals as goal

pub returns-clause-numbers : goal.returns-clause-numbers
returns-clause-numbers c = numbers_rise_by_one

pub returns-clause-once : goal.returns-clause-once
returns-clause-once c = leaves_sign_once

pub returns-clause-spent : goal.returns-clause-spent
returns-clause-spent c = spent_exactly

pub returns-clause-last : goal.returns-clause-last
returns-clause-last c = none_after
