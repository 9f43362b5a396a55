use Rattle.entangled_picture.proofs.Imports.{◌≡◌, ◌++◌, option_to_list, slice_get, flat_map, range_with_len, bar_to}
use Rattle.entangled_picture.proofs.bars.add_bars.Given as goal

-- the bars so far
abbrev pub invariant-loop-i : goal.invariant-loop-i
invariant-loop-i l =
    l.shapes.items
    ≡ l.fn.shapes.items
    ++ flat_map (λ place. option_to_list (bar_to l.placed place (slice_get l.placed place))) (range_with_len 0 l.i)
