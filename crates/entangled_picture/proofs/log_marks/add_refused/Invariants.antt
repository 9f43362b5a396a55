use Rattle.entangled_picture.proofs.log_marks.add_refused.Given as goal
use Rattle.entangled_picture.proofs.Imports.{flat_map, option_to_list, range_with_len, refused_at, slice_get, ◌++◌, ◌≡◌}

-- the marks so far
abbrev pub invariant-loop-order : goal.invariant-loop-order
invariant-loop-order l =
    l.shapes.items
    ≡ l.fn.shapes.items
    ++ flat_map (λ order. option_to_list (refused_at l.log l.edge order (slice_get l.refused order)))
    (range_with_len 0 l.order)
