use Rattle.log_commands.proofs.Imports.{map, rule_tree, source_named}
use Rattle.log_commands.proofs.CheckAnswers.{proof_checked, proof_read, proof_refused}
use Rattle.log_commands.proofs.check.check_graph.Goals as goal

-- what was read is a proof for the graph
pub check_by-requires-clause-proof : goal.check_by-requires-clause-proof
check_by-requires-clause-proof g c =
    proof_read g.S.Store _ _ c.args.graph _ _ c.in-Ok.lines c.in-Ok.ensures

pub returns-in-Ok : goal.returns-in-Ok
returns-in-Ok g c =
    proof_checked g.S.Store _ _ c.args.graph _ _ c.args.roster.machines (source_named c.args.word.now)
    (map rule_tree c.args.rules.items) c.in-Ok.lines _ c.in-Ok.ensures c.check_by.ensures.ok c.check_by.ensures.err
    c.check_by.ensures.only

pub returns-in-Err : goal.returns-in-Err
returns-in-Err g c =
    proof_refused g.S.Store _ _ c.args.graph _ _ c.args.roster.machines (source_named c.args.word.now)
    (map rule_tree c.args.rules.items) c.in-Err.fault c.in-Err.ensures
