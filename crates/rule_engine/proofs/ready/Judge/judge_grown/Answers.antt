use Rattle.rule_engine.proofs.ready.Judge.judge_grown.Goals as goal
use Rattle.rule_engine.proofs.{Graphs.answer_by_graph, Imports.sym, Imports.tree_of}

pub returns : goal.returns
returns c graph is =
    answer_by_graph c.self.inside.survivors.rows.now c.self.inside.survivors.known.order.now _ (sym c.self.view_is)
    c.self.invariant.0 graph is (tree_of c.args.rule.now.body) c.answer_grown.result c.answer_grown.ensures
