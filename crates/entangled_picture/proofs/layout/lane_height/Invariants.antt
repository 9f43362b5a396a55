use Rattle.entangled_picture.proofs.Imports.{◌≡◌, ◌<◌, ◌^◌, take, fold, grown_height}
use Rattle.entangled_picture.proofs.layout.lane_height.Given as goal

-- the height so far
abbrev pub invariant-loop-shape : goal.invariant-loop-shape
invariant-loop-shape l = record {
  highest : l.height ≡ fold (grown_height l.lane) 0 (take l.shape-index l.shapes);
  fits : l.height < 2 ^ 100;
}
