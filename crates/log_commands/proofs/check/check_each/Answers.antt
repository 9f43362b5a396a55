use Rattle.log_commands.proofs.check.check_each.Goals as goal
use Rattle.log_commands.proofs.{CheckedRules.checked_more, CheckedRules.first_too_wide, Imports.nodes_of}

pub returns-in-Err-TooWide-clause-err : goal.returns-in-Err-TooWide-clause-err
returns-in-Err-TooWide-clause-err c =
    first_too_wide c.args.rows.now (nodes_of c.args.graph.now) c.args.proof.now c.args.rules.now c.loop-place.place
    c.index-rules-place.result c.loop-place.verdicts.items c.loop-place-test.true c.index-rules-place.is
    c.loop-place.invariant c.in-Err-TooWide.field-0 c.in-Err-TooWide.field-0-is c.in-Err-TooWide.ensures

pub loop-place-preserved : goal.loop-place-preserved
loop-place-preserved c =
    rw c.in_ok-push-in-Ok.ensures.items
    (checked_more c.args.rows.now (nodes_of c.args.graph.now) c.args.proof.now c.args.rules.now c.loop-place.place
    c.index-rules-place.result c.loop-place.verdicts.items c.loop-place-test.true c.index-rules-place.is
    c.loop-place.invariant c.in-Ok.verdict c.in-Ok.ensures)
