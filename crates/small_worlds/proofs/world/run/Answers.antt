use Rattle.small_worlds.proofs.world.run.Goals as goal
use Rattle.entry_order.proofs.Plays.{IsOrderly-play, IsOrderly-start, order_is_receipt}
use Rattle.entry_order.specs.{Naming.Distinct, Receipt.IsOrderly, Receipt.OrderIsReceiptIn}
use Rattle.entry_order.specs.World.{play, sent_in, start, World}
use Rattle.std.proofs.{Common.ap, Common.length, Common.subst, Common.sym, Common.◌∙◌, lemmas.Result.on_ok_weaker}

pub returns-clause-played : goal.returns-clause-played
returns-clause-played g c =
    on_ok_weaker c.play.result
    (λ is. is ∙ ap (λ w. play g.T.Knot.node g.T.Sender.next c.args.log w c.args.steps.now) c.requires) c.play.ensures

pub returns-clause-orderly : goal.returns-clause-orderly
returns-clause-orderly g c =
    let node = g.T.Knot.node in
    let next = g.T.Sender.next in
    let n = length c.args.machines.now in
    on_ok_weaker c.play.result
    (λ is.
    let e = is ∙ ap (λ w. play node next c.args.log w c.args.steps.now) c.requires in
    subst (λ (w : World g.row.T.Denot). IsOrderly node w) (sym e)
    (IsOrderly-play node next c.args.log g.met.T.Sender.lawful (start n) c.args.steps.now (IsOrderly-start node n)))
    c.play.ensures

pub returns-clause-order : goal.returns-clause-order
returns-clause-order g c =
    let node = g.T.Knot.node in
    let next = g.T.Sender.next in
    let n = length c.args.machines.now in
    on_ok_weaker c.play.result
    (λ is.
    let e = is ∙ ap (λ w. play node next c.args.log w c.args.steps.now) c.requires in
    subst (λ (w : World g.row.T.Denot). Distinct node (sent_in w) → OrderIsReceiptIn node w) (sym e)
    (order_is_receipt node next c.args.log n c.args.steps.now g.met.T.Sender.lawful))
    c.play.ensures
