use Rattle.entangled_picture.proofs.Imports.{◌≡◌, ◌++◌, map, get_or, [], range_with_len}
use Rattle.entangled_picture.specs.declared.shape.Shape.TheVariants as shape
use Rattle.entangled_picture.proofs.marks.add_strays.Given as goal

-- the marks so far
abbrev pub invariant-loop-order : goal.invariant-loop-order
invariant-loop-order l =
    l.shapes.items
    ≡ l.fn.shapes.items ++ map (λ order. shape.Stray (record { column = 0; lane = l.lane; level = 0 }) order
    (get_or l.strays order [])) (range_with_len 0 l.order)
