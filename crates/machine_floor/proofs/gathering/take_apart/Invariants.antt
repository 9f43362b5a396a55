use Rattle.machine_floor.proofs.Imports.{◌≡◌, List, ◌++◌, lists_of, StationState, AreParts, into_iter_items}
use Rattle.machine_floor.proofs.gathering.take_apart.Given as goal

-- the stations that were taken apart, and the others
abbrev pub invariant-loop-station : goal.invariant-loop-station
invariant-loop-station l =
    (done : List StationState) × (done ++ into_iter_items l.station-iterator ≡ l.fn.stations.items)
    × AreParts done l.machines.items (lists_of l.outs.items) (lists_of l.inns.items) l.losses.items
    (lists_of l.by.items)
