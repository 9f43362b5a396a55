use Rattle.log_commands.proofs.Imports.{AreChecked, map, nodes_of, rule_tree, take}
use Rattle.log_commands.proofs.check.check_each.Given as goal

-- the verdicts on the rules so far
abbrev pub invariant-loop-place : goal.invariant-loop-place
invariant-loop-place l =
    AreChecked l.rows (nodes_of l.graph) l.proof (map rule_tree (take l.place l.rules)) l.verdicts.items
