use Rattle.log_commands.proofs.Imports.{AreLinesOf, IsLive, IsOfSameAudit, map, node_of_sealed, rule_tree, StandFor}
use Rattle.log_commands.proofs.Imports.{string_bytes, take, text_of_sealed}
use Rattle.log_commands.proofs.watch.watch_entries.Given as goal

-- what was added stands for the entries so far, of which the lines are
abbrev pub invariant-loop-k : goal.invariant-loop-k
invariant-loop-k l = record {
  stand : StandFor node_of_sealed text_of_sealed l.live.added (take l.k (map (λ e. e.now) l.entries));
  same : IsOfSameAudit l.fn.live l.live;
  kept : IsLive l.live;
  told : AreLinesOf l.fn.live.machines (map rule_tree l.fn.live.rules) (take l.k (map (λ e. e.now) l.entries))
      (string_bytes l.lines);
}
