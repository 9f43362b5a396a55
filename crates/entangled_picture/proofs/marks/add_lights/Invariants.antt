use Rattle.entangled_picture.proofs.Imports.{◌≡◌, ◌++◌, flat_map, range_with_len, lights_by}
use Rattle.entangled_picture.proofs.marks.add_lights.Given as goal

-- the lights so far
abbrev pub invariant-loop-rule : goal.invariant-loop-rule
invariant-loop-rule l =
    l.shapes.items ≡ l.fn.shapes.items ++ flat_map (lights_by l.placed l.verdicts) (range_with_len 0 l.rule)
