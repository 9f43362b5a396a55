use Rattle.log_commands.proofs.Imports.{ap, before, parents_of, ragged_of, Some, sym, ◌∙◌}
use Rattle.log_commands.proofs.OrderWords.{graph_says, word_is_right}
use Rattle.log_commands.proofs.order.word_at.Goals as goal

pub make-requires : goal.make-requires
make-requires c = c.requires.kept.few

pub returns : goal.returns
returns c e f at_e at_f =
    let graph = c.args.graph.now in
    let first = c.args.first in
    let second = c.args.second in
    let orders = c.in_ok-rows.ensures.orders in
    let says = graph_says c.order_is_settled.ensures.exact graph.survivors (parents_of graph.links)
    (ragged_of graph.links) c.requires.kept.linked.arrows in
    rw (
      c.word_by.ensures,
      c.before-2.ensures,
      orders first second c.requires.second,
      c.before-3.ensures,
      orders second first c.requires.first,
    )
    (word_is_right graph.survivors e f (before (parents_of graph.links) (ragged_of graph.links) first second)
    (before (parents_of graph.links) (ragged_of graph.links) second first)
    (λ same. c.if-first-second.false (c.requires.kept.single first second e at_e (at_f ∙ ap Some (sym same))))
    (says first second e f at_e at_f) (says second first f e at_f at_e))
