use Rattle.finished_floor.proofs.Beginnings.{start_balanced, start_of_sent, start_on_way, start_once}
use Rattle.floor_tests.proofs.sweep_tests.swept.Goals as goal

pub sweep-requires-clause-placed : goal.sweep-requires-clause-placed
sweep-requires-clause-placed c = λ place m is. (c.in_ok-machines.ensures place m is).0

pub sweep-requires-clause-waits : goal.sweep-requires-clause-waits
sweep-requires-clause-waits c =
    start_on_way c.in_ok-machines.machines.items c.new-losses.result.items c.new-waits.result.items
    c.new-losses.ensures.items c.new-waits.ensures.items

pub sweep-requires-clause-balanced : goal.sweep-requires-clause-balanced
sweep-requires-clause-balanced c =
    start_balanced c.in_ok-machines.machines.items c.new-losses.result.items c.new-waits.result.items
    c.new-losses.ensures.items c.new-waits.ensures.items (λ place m is. (c.in_ok-machines.ensures place m is).1)

pub sweep-requires-clause-once : goal.sweep-requires-clause-once
sweep-requires-clause-once c =
    start_once c.in_ok-machines.machines.items c.new-losses.result.items c.new-waits.result.items
    c.new-losses.ensures.items c.new-waits.ensures.items

pub sweep-requires-clause-sent : goal.sweep-requires-clause-sent
sweep-requires-clause-sent c =
    start_of_sent c.in_ok-machines.machines.items c.new-losses.result.items c.new-waits.result.items
    c.new-losses.ensures.items c.new-waits.ensures.items
