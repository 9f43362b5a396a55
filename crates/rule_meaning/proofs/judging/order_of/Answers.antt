use Rattle.rule_meaning.proofs.judging.order_of.Goals as goal

pub before-requires-clause-place : goal.before-requires-clause-place
before-requires-clause-place g c =
    rw c.in-Some-Some.is-1 at (c.place_of-2.ensures.within (g.K.Knowledge.count c.args.known.now) c.requires.within)
