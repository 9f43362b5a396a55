use Rattle.machine_floor.proofs.Imports.{◌≡◌, ◌++◌, length, map, waiting}
use Rattle.machine_floor.proofs.finishing.add_rest.Given as goal

-- those that were added, and the others
abbrev pub invariant-loop-parcel : goal.invariant-loop-parcel
invariant-loop-parcel l =
    l.waits.items ++ map (waiting l.to) l.rest ≡ l.fn.waits.items ++ map (waiting l.to) l.fn.rest

abbrev pub decreases-loop-parcel : goal.decreases-loop-parcel
decreases-loop-parcel l = length l.rest
