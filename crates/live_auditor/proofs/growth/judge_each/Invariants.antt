use Rattle.live_auditor.proofs.Imports.{AreJudged, Graph, IsKnownOf, map, rule_tree, take}
use Rattle.live_auditor.proofs.growth.judge_each.Given as goal

-- the verdicts on the rules so far
abbrev pub invariant-loop-place : goal.invariant-loop-place
invariant-loop-place l =
    (graph : Graph) → IsKnownOf graph l.judge.known →
    AreJudged l.judge.rows graph (map rule_tree (take l.place l.rules)) l.verdicts.items
