use Rattle.auditor.proofs.Imports.{IfErr-weaker, nodes_of, ◌∙◌}
use Rattle.auditor.proofs.auditing.judge_graph.Goals as goal

pub returns-clause-err : goal.returns-clause-err
returns-clause-err c =
    rw (← (c.as_slice.ensures.value ∙ c.in_ok-seen.ensures))
    (IfErr-weaker c.judge_all.result _ _
    (λ fault unjudged. unjudged (nodes_of c.args.graph.now) c.in_ok-order.ensures) c.judge_all.ensures.err)
