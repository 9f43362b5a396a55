use Rattle.machine_floor.proofs.Imports.{◌+◌, ◌≤◌, List, length, ap, ◌∙◌, arith, get_or, Cast0, Deed, take, flat_map}
use Rattle.machine_floor.proofs.Counted.{counted_more, counted_few}
use Rattle.machine_floor.proofs.running.turns_of.Goals as goal
use Rattle.machine_floor.proofs.running.turns_of.Goals.{After-as_slice}

-- the actions so far and one machine's more are no more than all
within : (c : After-as_slice) →
    let f : Cast0 → List Deed = λ cast. cast.actions in let casts : List Cast0 = c.args.script.now.machines in
    length (flat_map f (take c.loop-cast.cast-index casts)) + length c.as_slice.result.now ≤ length (flat_map f casts)
within c =
    let f : Cast0 → List Deed = λ cast. cast.actions in
    let casts : List Cast0 = c.args.script.now.machines in
    let same = c.as_slice-cast-items.ensures in
    let i = c.loop-cast.cast-index in
    let more = counted_more f casts i c.cast-item.result
    (let t = c.loop-cast-test.true in let long = ap length same in omega arith)
    (c.cast-item.is ∙ ap (λ l. get_or l i c.cast-item.result) same) in
    let few = counted_few f casts (i + 1) in
    let here = ap length c.as_slice.ensures in
    omega arith

pub overflow_cast-actions : goal.overflow_cast-actions
overflow_cast-actions c =
    let few = within (goal.at.overflow_cast-actions c).After-as_slice in
    let in_all = c.requires.machines.in_all in omega arith

pub overflow_add-actions : goal.overflow_add-actions
overflow_add-actions c =
    let few = within (goal.at.overflow_add-actions c).After-as_slice in
    let in_all = c.requires.machines.in_all in let sum = c.loop-cast.invariant in omega arith
