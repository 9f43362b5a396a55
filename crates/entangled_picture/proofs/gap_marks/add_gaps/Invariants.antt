use Rattle.entangled_picture.proofs.Imports.{◌≡◌, ◌++◌, [], get_or, flat_map, range_with_len, gap_of}
use Rattle.entangled_picture.proofs.gap_marks.add_gaps.Given as goal

-- the gaps so far
abbrev pub invariant-loop-level : goal.invariant-loop-level
invariant-loop-level l =
    l.shapes.items
    ≡ l.fn.shapes.items
    ++ flat_map (λ level. gap_of l.graph l.placed l.lane level (get_or l.gaps level []))
    (range_with_len 0 l.level)
