use Rattle.log_commands.proofs.watch.wide_after.Given as goal
use Rattle.log_commands.proofs.Imports.{IsLive, IsOfSameAudit, map, node_of_sealed, rule_tree, StandFor, take}
use Rattle.log_commands.proofs.{Imports.text_of_sealed, WatchSteps.AreNarrow}

-- what was added stands for the entries so far, after none of which a rule is too wide
abbrev pub invariant-loop-k : goal.invariant-loop-k
invariant-loop-k l = record {
  stand : StandFor node_of_sealed text_of_sealed l.live.added (take l.k (map (λ e. e.now) l.entries));
  same : IsOfSameAudit l.fn.live l.live;
  kept : IsLive l.live;
  narrow : AreNarrow l.fn.live.machines (map rule_tree l.rules) (map (λ e. e.now) l.entries) l.k;
}
