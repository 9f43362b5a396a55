use Rattle.log_commands.proofs.Imports.{entries_of, map, rule_tree, source_named, survivors_have_makers}
use Rattle.log_commands.proofs.CheckAnswers.{graph_checked, graph_refused}
use Rattle.log_commands.proofs.check.check_logs.Goals as goal

pub check_graph-requires-clause-kept : goal.check_graph-requires-clause-kept
check_graph-requires-clause-kept g c = c.in-Ok.ensures.ok.2.kept

pub check_graph-requires-clause-makers : goal.check_graph-requires-clause-makers
check_graph-requires-clause-makers g c =
    survivors_have_makers _ (entries_of c.args.logs.items) _ c.requires.makers c.in-Ok.ensures.ok

pub returns-in-Ok : goal.returns-in-Ok
returns-in-Ok g c =
    graph_checked g.S.Store c.args.roster.machines (source_named c.args.word.now) (map rule_tree c.args.rules.items)
    _ c.args.logs.items c.in-Ok.graph _ _ _ c.in-Ok.ensures.ok c.check_graph.ensures

pub returns-in-Err : goal.returns-in-Err
returns-in-Err g c =
    graph_refused g.S.Store c.args.roster.machines (source_named c.args.word.now) (map rule_tree c.args.rules.items)
    _ c.args.logs.items _ _ c.in-Err.ensures.err (λ e. c.in-Err.ensures.no_read (let same = e in cc))
