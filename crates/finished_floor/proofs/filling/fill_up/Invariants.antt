use Rattle.finished_floor.proofs.Imports.{◌≡◌, ◌≤◌, ◌-◌, ◌++◌, None, length, replicate}
use Rattle.finished_floor.proofs.filling.fill_up.Given as goal

-- how many have been added
abbrev pub invariant-loop : goal.invariant-loop
invariant-loop l = record {
  begun : length l.initial.row.items ≤ l.counter;
  items : l.row.items ≡ l.initial.row.items ++ replicate (l.counter - length l.initial.row.items) None;
}
