use Rattle.live_auditor.proofs.Imports.{IfErr-weaker, IsUnjudged, map, nodes_of, rule_tree}
use Rattle.live_auditor.proofs.summary.judge_over.Goals as goal

pub returns-clause-err : goal.returns-clause-err
returns-clause-err c =
    IfErr-weaker c.judge_all.result _ (IsUnjudged c.args.rows.now (map rule_tree c.args.rules.now))
    (λ fault unjudged. unjudged (nodes_of c.args.graph.now) c.in_ok-order.ensures) c.judge_all.ensures.err
