use Rattle.log_commands.proofs.Imports.{entries_of, Err, evidence_by, evidence_of, GivesGraph, IfErr, IfOk, IfSome, inr}
use Rattle.log_commands.proofs.Imports.{List, LogRead, Ok, on_refusal, refl, refusal_of, source_named, subst, Watches}
use Rattle.log_commands.proofs.watch.watch_evidence.Goals as goal

pub watch_graph-requires-clause-graphed : goal.watch_graph-requires-clause-graphed
watch_graph-requires-clause-graphed c =
    rw (c.as_slice-in-Ok.ensures.value, ← c.as_slice.ensures.value) c.in-Ok.ensures.ok

pub returns-in-Ok-clause-ok : goal.returns-in-Ok-clause-ok
returns-in-Ok-clause-ok c names =
    let found = c.args.found in
    subst (λ (logs : List LogRead). IfOk c.watch_graph.result (λ answer. Watches (source_named c.args.word.now) names
    (evidence_by found.roster.machines found.rules.items logs) (Ok answer)))
    c.as_slice-in-Ok.ensures.value (c.watch_graph.ensures.ok names)

pub returns-in-Ok-clause-err : goal.returns-in-Ok-clause-err
returns-in-Ok-clause-err c names =
    let found = c.args.found in
    subst (λ (logs : List LogRead). IfErr c.watch_graph.result (λ fault. IfSome (refusal_of fault)
    (λ refusal. Watches (source_named c.args.word.now) names
    (evidence_by found.roster.machines found.rules.items logs) (Err refusal))))
    c.as_slice-in-Ok.ensures.value (c.watch_graph.ensures.err names)

-- the graph is refused
pub returns-clause-err : goal.returns-clause-err
returns-clause-err c names =
    on_refusal (λ refusal. GivesGraph (entries_of c.as_slice.result.now) (Err refusal))
    (λ refusal. Watches (source_named c.args.word.now) names (evidence_of c.args.found) (Err refusal))
    (refusal_of c.in-Err.fault)
    (λ refusal gives. inr (
      refusal,
      subst (λ (logs : List LogRead). GivesGraph (entries_of logs) (Err refusal)) c.as_slice.ensures.value gives,
      refl,
    ))
    c.in-Err.ensures.err
