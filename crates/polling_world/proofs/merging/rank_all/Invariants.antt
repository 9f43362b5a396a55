use Rattle.polling_world.proofs.Imports.{◌≡◌, ◌≤◌, length, map, node_of_sealed, world_of, ranked_step}
use Rattle.polling_world.proofs.Ranking.{events_to}
use Rattle.polling_world.proofs.merging.rank_all.Given as goal

-- the steps of the machines so far
abbrev pub invariant-loop-at : goal.invariant-loop-at
invariant-loop-at l = record {
  within : l.at ≤ length l.machines;
  ranked : l.ranked.items ≡ map (ranked_step node_of_sealed)
      (events_to node_of_sealed (world_of l.machines) l.at);
}
