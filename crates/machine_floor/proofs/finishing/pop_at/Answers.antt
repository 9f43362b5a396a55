use Rattle.machine_floor.proofs.finishing.pop_at.Goals as goal
use Rattle.machine_floor.proofs.{Imports.arith, Rests.popped_at}

pub returns : goal.returns
returns c =
    popped_at c.args.inns.now.items c.args.at c.index_mut.result.now c.pop.new.self c.in-Some.inn
    (let k = c.args.inns.now.ok.0 in let r = c.requires.at in omega arith) c.index_mut.ensures.value
    c.in-Some.ensures.items
