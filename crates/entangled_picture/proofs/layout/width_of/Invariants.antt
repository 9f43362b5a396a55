use Rattle.entangled_picture.proofs.Imports.{◌≡◌, ◌<◌, ◌^◌, take, max, fold, right_of}
use Rattle.entangled_picture.proofs.layout.width_of.Given as goal

-- the greatest so far
abbrev pub invariant-loop-shape : goal.invariant-loop-shape
invariant-loop-shape l = record {
  greatest : l.width ≡ fold (λ width shape. max width (right_of shape)) 400 (take l.shape-index l.shapes);
  fits : l.width < 2 ^ 100;
}
