use Rattle.live_auditor.proofs.OneSummary.{one_summary}
use Rattle.live_auditor.proofs.laws.orders_give_one_summary.Goals as goal

pub returns : goal.returns
returns c = one_summary c.entries_give_one_graph.ensures
