use Rattle.machine_floor.proofs.Imports.{List, length, LinkView, lists_of, AreNewLinks, into_iter_items}
use Rattle.machine_floor.proofs.FirstStations.{AreFirst}
use Rattle.machine_floor.proofs.making.prepare.Given as goal

-- the stations of the first machines over these links, and what is left for the others
abbrev pub invariant-loop-key : goal.invariant-loop-key
invariant-loop-key l =
    let outs = lists_of (into_iter_items l.initial.outs) in
    let inns = lists_of (into_iter_items l.initial.inns) in
    (links : List (List LinkView)) → AreNewLinks (length l.script.machines) l.script.link links outs inns →
    AreFirst l.script links outs inns l.all.items (into_iter_items l.key-iterator)
    (lists_of (into_iter_items l.outs)) (lists_of (into_iter_items l.inns))
