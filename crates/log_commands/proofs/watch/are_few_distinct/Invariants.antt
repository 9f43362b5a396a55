use Rattle.log_commands.proofs.Imports.{distinct, length, map, node_of_sealed, take, ◌≡◌, ◌≤◌}
use Rattle.log_commands.proofs.watch.are_few_distinct.Given as goal

-- the different ones of the entries so far, of which there aren't too many
abbrev pub invariant-loop-k : goal.invariant-loop-k
invariant-loop-k l = record {
  are : map (λ e. e.now) l.different.items ≡ distinct node_of_sealed (take l.k (map (λ e. e.now) l.entries));
  few : length l.different.items ≤ 1024;
}
