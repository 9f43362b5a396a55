use Rattle.log_frontier.proofs.Tables.{lacks_decides}
use Rattle.log_frontier.proofs.noting.wants_by_scan.Goals as goal

pub returns : goal.returns
returns g c = rw c.lacks_some.ensures (lacks_decides g.T.Knot.node c.args.held.now)
