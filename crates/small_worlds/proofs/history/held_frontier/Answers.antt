use Rattle.small_worlds.proofs.history.held_frontier.Goals as goal
use Rattle.entry_order.proofs.Held.{frontier_held}
use Rattle.std.proofs.{Common.◌∙◌, lemmas.Result.IfOk-weaker}

pub returns : goal.returns
returns g c =
    IfOk-weaker c.frontier.result _ _ (λ ds is. is ∙ frontier_held g.T.Knot.node c.args.history.now) c.frontier.ensures
