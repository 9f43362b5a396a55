use Rattle.rule_engine.proofs.Imports.{AreJudged, Graph, IsKnownOf, map, rule_tree, take}
use Rattle.rule_engine.proofs.rules.judge_all.Given as goal

-- the verdicts on the rules so far
abbrev pub invariant-loop-place : goal.invariant-loop-place
invariant-loop-place l =
    (graph : Graph) → IsKnownOf graph l.order →
    AreJudged l.rows graph (map rule_tree (take l.place l.rules)) l.verdicts.items
