use Rattle.entangled_picture.proofs.Imports.{◌≡◌, ◌++◌, take, option_to_list, flat_map, light_in, spot_at}
use Rattle.entangled_picture.proofs.marks.add_lights_by.Given as goal

-- the lights so far
abbrev pub invariant-loop-place : goal.invariant-loop-place
invariant-loop-place l =
    l.shapes.items
    ≡ l.fn.shapes.items
    ++ flat_map (λ place. option_to_list (light_in (spot_at l.placed place) l.rule)) (take l.place-index l.places)
