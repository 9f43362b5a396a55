use Rattle.finished_floor.proofs.finishing.finish_floor.Goals as goal
use Rattle.finished_floor.proofs.{Finished.floor_of, Finished.played_of, Finished.rows_begun, Grown.are_placed}

pub sweep-requires-clause-placed : goal.sweep-requires-clause-placed
sweep-requires-clause-placed c =
    are_placed c.args.script.now c.args.gathered.machines.items c.requires.gathered.machines

pub fill-requires : goal.fill-requires
fill-requires c =
    rw c.deref.ensures.value
    (rows_begun (λ row. row.items) c.args.gathered.machines.items c.sweep.new.machines.items c.args.gathered.by.items
    c.in_ok-sweep.ensures.grown c.requires.gathered.by)

pub returns-clause-floor : goal.returns-clause-floor
returns-clause-floor c =
    let swept = c.in_ok-sweep.ensures in
    let ms = c.args.gathered.machines.items in
    let ns = c.sweep.new.machines.items in
    let before = c.args.gathered.losses.items in
    let after = c.sweep.new.losses.items in
    floor_of c.args.script.now c.requires.lawful c.args.gathered.roster.machines ms ns c.args.gathered.waits.items
    before after c.sort_losses.new.losses.items _ c.requires.gathered swept.grown swept.placed swept.makers
    swept.balanced
    (rw c.as_slice-loses.ensures at swept.licensed) (rw c.as_slice-loses.ensures at swept.scripted) swept.whole
    c.sort_losses.ensures.same c.sort_losses.ensures.sorted

pub returns-clause-played : goal.returns-clause-played
returns-clause-played c =
    let swept = c.in_ok-sweep.ensures in
    let ms = c.args.gathered.machines.items in
    let ns = c.sweep.new.machines.items in
    let before = c.args.gathered.losses.items in
    let after = c.sweep.new.losses.items in
    played_of c.args.script.now c.requires.lawful c.args.gathered.roster.machines ms ns c.args.gathered.waits.items
    before after c.sort_losses.new.losses.items _ c.requires.gathered swept.grown swept.placed swept.makers
    swept.balanced
    (rw c.as_slice-loses.ensures at swept.licensed) (rw c.as_slice-loses.ensures at swept.scripted) swept.whole
    c.sort_losses.ensures.same c.sort_losses.ensures.sorted

pub returns-clause-by : goal.returns-clause-by
returns-clause-by c =
    rw c.deref.ensures.value at c.in_ok-fill.ensures
