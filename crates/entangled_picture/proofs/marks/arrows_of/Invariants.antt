use Rattle.entangled_picture.proofs.Imports.{◌≡◌, flat_map, range_with_len, arrows_from}
use Rattle.entangled_picture.proofs.marks.arrows_of.Given as goal

-- the arrows so far
abbrev pub invariant-loop-i : goal.invariant-loop-i
invariant-loop-i l = l.arrows.items ≡ flat_map (arrows_from l.graph l.placed) (range_with_len 0 l.i)
