use Rattle.item_list.proofs.Rows.{IsDecidedFrom}
use Rattle.item_list.proofs.causes.first_of.Given as goal

-- no test so far is true
abbrev pub invariant-loop-applies : goal.invariant-loop-applies
invariant-loop-applies g l = IsDecidedFrom l.row l.applies-index
