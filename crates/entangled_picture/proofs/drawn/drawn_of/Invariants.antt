use Rattle.entangled_picture.proofs.Imports.{◌≡◌, map, range_with_len, is_drawn}
use Rattle.entangled_picture.proofs.drawn.drawn_of.Given as goal

-- the survivors so far
abbrev pub invariant-loop-i : goal.invariant-loop-i
invariant-loop-i l =
    l.drawn.items ≡ map (is_drawn l.graph l.verdicts l.seen) (range_with_len 0 l.i)
