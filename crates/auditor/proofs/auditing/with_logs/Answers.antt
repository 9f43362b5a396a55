use Rattle.auditor.proofs.Imports.{entries_of, Err, GivesGraph, IfOk-weaker, inl, inr, Ok, on_refusal, refl, refusal_of}
use Rattle.auditor.proofs.Imports.{subst}
use Rattle.auditor.proofs.{Chained.err_by, Makers.survivors_have_makers}
use Rattle.auditor.proofs.auditing.with_logs.Goals as goal

pub with_graph-requires-clause-makers : goal.with_graph-requires-clause-makers
with_graph-requires-clause-makers c =
    survivors_have_makers c.args.roster.machines (entries_of c.args.logs.items) c.in-Ok.graph c.requires.makers
    (rw c.as_slice.ensures.value at c.in-Ok.ensures.ok)

pub with_graph-requires-clause-graphed : goal.with_graph-requires-clause-graphed
with_graph-requires-clause-graphed c = rw c.as_slice.ensures.value at c.in-Ok.ensures.ok

-- what the graph gives, under the names as they were given
pub returns-in-Ok-clause-ok : goal.returns-in-Ok-clause-ok
returns-in-Ok-clause-ok c =
    let gives : GivesGraph (entries_of c.args.logs.items) (Ok c.in-Ok.graph) =
    rw c.as_slice.ensures.value at c.in-Ok.ensures.ok in
    IfOk-weaker c.with_graph.result _ _
    (λ report is. inl (c.in-Ok.graph, gives, rw (← c.in_ok-files.ensures) is)) c.with_graph.ensures.ok

pub returns-in-Ok-clause-err : goal.returns-in-Ok-clause-err
returns-in-Ok-clause-err c =
    let gives : GivesGraph (entries_of c.args.logs.items) (Ok c.in-Ok.graph) =
    rw c.as_slice.ensures.value at c.in-Ok.ensures.ok in
    err_by c.with_graph.result _ _ (λ refusal is. inl (c.in-Ok.graph, gives, rw (← c.in_ok-files.ensures) is))
    c.with_graph.ensures.err

pub returns-in-Err-clause-err : goal.returns-in-Err-clause-err
returns-in-Err-clause-err c =
    on_refusal _ _ (refusal_of c.in-Err.fault)
    (λ refusal is. inr (
      refusal,
      subst (λ logs. GivesGraph (entries_of logs) (Err refusal)) c.as_slice.ensures.value is,
      refl,
    ))
    c.in-Err.ensures.err
