use Rattle.entangled_picture.proofs.Imports.{◌≡◌, ◌++◌, option_to_list, slice_get, flat_map, range_with_len, entry_at}
use Rattle.entangled_picture.proofs.marks.add_entries.Given as goal

-- the marks so far
abbrev pub invariant-loop-place : goal.invariant-loop-place
invariant-loop-place l =
    l.shapes.items
    ≡ l.fn.shapes.items
    ++ flat_map (λ place. option_to_list (entry_at place (slice_get l.placed place))) (range_with_len 0 l.place)
