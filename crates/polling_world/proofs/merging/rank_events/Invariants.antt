use Rattle.polling_world.proofs.Imports.{◌≡◌, ◌++◌, [], take, node_of_sealed, held, greatest_stamp, ranked_steps}
use Rattle.polling_world.proofs.merging.rank_events.Given as goal

-- the greatest stamp so far, and the steps so far after the others
abbrev pub invariant-loop-place : goal.invariant-loop-place
invariant-loop-place l = record {
  clock : l.clock ≡ greatest_stamp node_of_sealed (held (take l.place l.events));
  ranked : l.ranked.items ≡ l.fn.ranked.items ++ ranked_steps node_of_sealed l.machine [] (take l.place l.events);
}
