use Rattle.log_frontier.proofs.frontier.Frontier.wants.Goals as goal
use Rattle.log_frontier.proofs.{Imports.sym, Imports.◌∙◌, Tables.wants_by_table}

pub returns-else-scans : goal.returns-else-scans
returns-else-scans g c =
    let are = rw (← c.self.view_is) at c.requires.wanted in
    wants_by_table g.T.Knot.node c.args.held.now c.self.inside.wanted.list
    (are (sym c.scans.ensures ∙ c.if-scans.false)) c.is_empty.result c.is_empty.ensures
