use Rattle.log_frontier.proofs.frontier.Frontier.missing.Goals as goal
use Rattle.log_frontier.proofs.{Imports.ap, Imports.ascending, Imports.sym, Imports.◌∙◌, Tables.gaps_by_table}
use Rattle.log_frontier.proofs.frontier.Frontier.missing.Goals.{else-scans+in_ok-list+in_ok-digests-2}
use Rattle.log_frontier.proofs.frontier.Frontier.missing.Goals.{then-scans+in_ok-digests}

-- by the scan they are the gaps, and by the table where it has them all
pub returns : goal.returns
returns g c =
    let are = rw (← c.self.view_is) at c.requires.wanted in
    c.into_vec.ensures
    ∙ elim c.if-scans.branch [
      | then-scans+in_ok-digests w ↦ w.digests-is ∙ w.in_ok-digests.ensures
      | else-scans+in_ok-list+in_ok-digests-2 w ↦
          w.digests-is ∙ w.in_ok-digests-2.ensures ∙ ap ascending w.in_ok-list.ensures
          ∙ gaps_by_table g.T.Knot.node c.args.held.now c.self.inside.wanted.list
          (are (sym c.scans.ensures ∙ w.if-scans.false)) c.gaps_are_unique.ensures
    ]
