use Rattle.entangled_picture.proofs.Imports.{◌≡◌, map, range_with_len, top_of}
use Rattle.entangled_picture.proofs.layout.tops_of.Given as goal

-- the lines so far, and the next one
abbrev pub invariant-loop-lane : goal.invariant-loop-lane
invariant-loop-lane l = record {
  tops : l.tops.items ≡ map (top_of l.shapes) (range_with_len 0 l.lane);
  next : l.top ≡ top_of l.shapes l.lane;
}
