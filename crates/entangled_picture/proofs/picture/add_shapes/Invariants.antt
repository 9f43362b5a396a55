use Rattle.entangled_picture.proofs.Imports.{◌≡◌, ◌++◌, take, flat_map, report_of, shape_line}
use Rattle.entangled_picture.proofs.picture.add_shapes.Given as goal

-- the shapes so far
abbrev pub invariant-loop-shape : goal.invariant-loop-shape
invariant-loop-shape l =
    l.out ≡ l.fn.out ++ flat_map (shape_line (report_of l.report) l.tops) (take l.shape-index l.shapes)
