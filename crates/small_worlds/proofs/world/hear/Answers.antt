use Rattle.small_worlds.proofs.world.hear.Goals as goal
use Rattle.entry_order.specs.{History.sent, World.hear, World.history, World.Machine, World.with_machine}
use Rattle.small_worlds.proofs.Fusions.{with_machine_at}
use Rattle.std.proofs.{Common.ap, Common.cond, Common.sym, Common.◌∙◌, lemmas.Bool.ne_eqb}
use Rattle.std.specs.Prelude.{slice_get, slice_index_or}

pub returns-in_ok-hear-clause-ok : goal.returns-in_ok-hear-clause-ok
returns-in_ok-hear-clause-ok g c =
    let change =
    λ (a : Machine g.row.T.Denot). hear g.T.Knot.node c.args.log
    (slice_get (sent (history c.args.machines.now c.args.from)) c.args.number) a in
    let old = c.args.machines.now in
    let d = c.index-machines-at.result in
    with_machine_at c.args.at change old d c.hear.new.self c.if-at-machines.true
    (c.in_ok-hear.ensures.ok
    ∙ ap (λ o. hear g.T.Knot.node c.args.log o (slice_index_or old c.args.at d)) c.in_ok-entry.ensures)
    ∙ sym (ap (λ b. cond b old (with_machine c.args.at change old)) (ne_eqb c.args.at c.args.from c.if-at-from.true))
