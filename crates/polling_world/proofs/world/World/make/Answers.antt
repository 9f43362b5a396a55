use Rattle.polling_world.proofs.Imports.{List, arith, sym, subst, Post, IsWorld}
use Rattle.polling_world.proofs.WorldMaking.{next_key, one_more, all_fresh, fresh_world, fresh_configs}
use Rattle.polling_world.proofs.world.World.make.Goals as goal

pub make-requires-clause-key : goal.make-requires-clause-key
make-requires-clause-key c =
    next_key c.args.script.now c.loop-key.machines.items c.loop-key.key-iterator.rest.items c.next.new.self.rest.items
    c.in-Some.key c.len-at.result c.loop-key.invariant c.in-Some.ensures.steps.0 (omega arith)

pub loop-key-preserved : goal.loop-key-preserved
loop-key-preserved c =
    one_more c.args.script.now c.loop-key.machines.items c.loop-key.key-iterator.rest.items c.next.new.self.rest.items
    c.in-Some.key c.len-at.result c.loop-key.invariant c.in-Some.ensures.steps.0 (omega arith) c.in_ok-make.field-0
    c.push.new.self.items c.in_ok-make.ensures c.in_ok-push.ensures.items

pub invariant_of-result : goal.invariant_of-result
invariant_of-result c =
    subst (λ (posts : List Post). IsWorld posts c.loop-key.machines.items) (sym c.in_ok-roster.ensures)
    (fresh_world c.args.script.now c.loop-key.machines.items c.loop-key.invariant.each c.requires.lawful
    c.loop-key.invariant.within)

pub returns-clause-machines : goal.returns-clause-machines
returns-clause-machines c =
    all_fresh c.args.script.now c.loop-key.machines.items c.loop-key.key-iterator.rest.items c.loop-key.invariant
    (omega (arith, c.in-None.ensures.steps.0))

pub returns-clause-configs : goal.returns-clause-configs
returns-clause-configs c =
    fresh_configs c.args.script.now c.loop-key.machines.items
    (all_fresh c.args.script.now c.loop-key.machines.items c.loop-key.key-iterator.rest.items c.loop-key.invariant
    (omega (arith, c.in-None.ensures.steps.0)))
