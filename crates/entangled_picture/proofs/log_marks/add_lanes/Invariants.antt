use Rattle.entangled_picture.proofs.Imports.{◌≡◌, ◌++◌, map, range_with_len, logs_above}
use Rattle.entangled_picture.specs.declared.shape.Shape.TheVariants as shape
use Rattle.entangled_picture.proofs.log_marks.add_lanes.Given as goal

-- the lanes so far
abbrev pub invariant-loop-lane : goal.invariant-loop-lane
invariant-loop-lane l =
    l.shapes.items
    ≡ l.fn.shapes.items ++ map (λ lane. shape.Lane (record { column = l.column; lane = lane; level = 0 })
    (logs_above l.logs lane l.machines)) (range_with_len 0 l.lane)
