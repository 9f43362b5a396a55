use Rattle.entangled_picture.proofs.Imports.{◌≡◌, ◌++◌, slice_get, flat_map, range_with_len, log_at}
use Rattle.entangled_picture.proofs.log_marks.add_logs.Given as goal

-- the logs so far
abbrev pub invariant-loop-i : goal.invariant-loop-i
invariant-loop-i l =
    l.shapes.items
    ≡ l.fn.shapes.items
    ++ flat_map (λ place. log_at l.logs l.machines l.column place (slice_get l.logs place)) (range_with_len 0 l.i)
