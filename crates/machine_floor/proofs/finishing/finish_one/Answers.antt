use Rattle.machine_floor.proofs.Rests.{rest_added}
use Rattle.machine_floor.proofs.finishing.finish_one.Goals as goal

pub returns-in_ok-add_rest : goal.returns-in_ok-add_rest
returns-in_ok-add_rest g c =
    rest_added c.args.from c.args.to c.args.out.put c.args.inn.taken c.finish.result c.args.waits.now.items
    c.add_rest.new.waits.items c.if-from-to.true (c.requires.makers c.if-from-to.true) c.finish.ensures.rest
    c.in_ok-add_rest.ensures
