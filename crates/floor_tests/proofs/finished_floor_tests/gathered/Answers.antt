use Rattle.std.proofs.Common.{◌+◌, ◌++◌, ◌∷◌, [], length, ap, arith, subst, sym}
use Rattle.finished_floor.proofs.News.{AreNew, new_gathered, new_more}
use Rattle.floor_tests.proofs.finished_floor_tests.gathered.Goals as goal

pub loop-at-preserved : goal.loop-at-preserved
loop-at-preserved c =
    let more = new_more (λ row. row.items) c.args.script.now c.loop-at.at c.loop-at.machines.items c.loop-at.by.items
    c.in_ok-machine_at.field-0 c.new.result c.loop-at.invariant c.in_ok-machine_at.ensures.of
    c.in_ok-machine_at.ensures.events c.new.ensures.items in
    subst (λ by. AreNew (λ row. row.items) c.args.script.now (c.loop-at.at + 1) c.push.new.self.items by)
    (sym c.in_ok-push-2.ensures.items)
    (subst (λ ms. AreNew (λ row. row.items) c.args.script.now (c.loop-at.at + 1) ms
    (c.loop-at.by.items ++ c.new.result ∷ [])) (sym c.in_ok-push.ensures.items) more)

pub returns : goal.returns
returns c =
    let count = ap length c.as_slice-count.ensures in
    new_gathered (λ row. row.items) c.args.script.now c.in_ok-roster.roster.machines c.loop-at.at
    c.loop-at.machines.items c.new-2.result.items c.new-3.result.items c.loop-at.by.items c.loop-at.invariant
    (omega (arith, c.loop-at-test.false)) c.in_ok-roster.ensures c.new-2.ensures.items c.new-3.ensures.items
