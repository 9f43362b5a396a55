use Rattle.std.proofs.Common.{ap, ◌∙◌}
use Rattle.crossbeam_queue.specs.Passes.{Pass, view}
use Rattle.broadcast_queues.specs.declared.side.Side.{Side}
use Rattle.broadcast_queues.proofs.Steps.{spares, joins, compares}
use Rattle.broadcast_queues.proofs.link.Link.compare.Goals as goal

pub another-spare-requires-clause-rule : goal.another-spare-requires-clause-rule
another-spare-requires-clause-rule g c = spares g.T.Parcel.from g.T.Parcel.number _ _

-- the end that puts takes in what the end that takes knows
pub absorb-requires-clause-rule : goal.absorb-requires-clause-rule
absorb-requires-clause-rule g c =
    let V : Type 0 = Side g.row.T.Denot in
    joins g.T.Parcel.from g.T.Parcel.number _ _ _ _
    (ap (λ (v : V). v.puts) c.another-spare.ensures.rule.0 ∙ c.out.invariant.0)
    (ap (λ (p : Pass g.row.T.Denot V). (view p).takes) c.replace-other.ensures.value ∙ c.inn.invariant.0)

-- it puts and takes now, so its own lists are all that was put and taken
pub another-requires-clause-rule : goal.another-requires-clause-rule
another-requires-clause-rule g c =
    let V : Type 0 = Side g.row.T.Denot in
    compares g.T.Parcel.from g.T.Parcel.number _ _
    (ap (λ (v : V). v.puts) c.learn_as.ensures.queue.1 ∙ ap (λ (v : V). v.puts) c.absorb.ensures.rule
    ∙ ap (λ (v : V). v.puts) c.another-spare.ensures.rule.0 ∙ c.out.invariant.0)
    (ap (λ (v : V). v.takes) c.learn_as.ensures.queue.1 ∙ ap (λ (v : V). v.takes) c.absorb.ensures.rule)
