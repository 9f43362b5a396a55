use Rattle.polling_world.proofs.steps.hear_at.Goals as goal
use Rattle.polling_world.proofs.Imports.{ap, arith, Event, History, inr, List, MachineState, SealedEntry, sent}
use Rattle.polling_world.proofs.Imports.{slice_get, subst, sym, ◌∙◌}
use Rattle.polling_world.proofs.{Placing.history_at, Taking.IsTold, Taking.refused_given, Taking.stands_at}
use Rattle.std.proofs.Common.{Some}

-- the entry isn't taken
pub returns-then-not-takes-clause-ok : goal.returns-then-not-takes-clause-ok
returns-then-not-takes-clause-ok c =
    let events = history_at c.args.machines.now.items c.args.from c.index.result.now (omega arith)
    ∙ ap (λ (m : MachineState). m.events) (sym c.index.ensures)
    ∙ sym (ap (λ (h : History SealedEntry). h.events) c.log.ensures.log) in
    inr (
      c.if-at-from.false,
      (
        c.in-Some.entry.now,
        ap (λ (h : List (Event SealedEntry)). slice_get (sent h) c.args.number) events ∙ c.in-Some.ensures.found,
        refused_given c.args.at c.in-Some.entry.now c.args.machines.now.items c.index-2.result.now
            (stands_at c.args.machines.now.items c.args.at c.index-2.result.now (omega arith) c.index-2.ensures)
            (subst (IsTold c.index-2.result.now c.in-Some.entry.now) c.if-not-takes.true c.takes.ensures),
      ),
    )

-- the entry that was sent is given
pub returns-clause-ok : goal.returns-clause-ok
returns-clause-ok c =
    let events = history_at c.args.machines.now.items c.args.from c.index.result.now (omega arith)
    ∙ ap (λ (m : MachineState). m.events) (sym c.index.ensures)
    ∙ sym (ap (λ (h : History SealedEntry). h.events) c.log.ensures.log) in
    inr (
      c.if-at-from.false,
      (
        c.in_ok-entry.entry,
        ap (λ (h : List (Event SealedEntry)). slice_get (sent h) c.args.number) events ∙ c.in-Some.ensures.found
            ∙ ap (λ (e : SealedEntry). Some e) (sym c.in_ok-entry.ensures),
        c.give.ensures,
      ),
    )
