use Rattle.entangled_picture.proofs.Imports.{◌≡◌, ◌++◌, take, option_to_list, flat_map, arrow_at}
use Rattle.entangled_picture.proofs.marks.add_arrows_from.Given as goal

-- the arrows so far
abbrev pub invariant-loop-parent : goal.invariant-loop-parent
invariant-loop-parent l =
    l.shapes.items
    ≡ l.fn.shapes.items
    ++ flat_map (λ parent. option_to_list (arrow_at l.placed l.place parent)) (take l.parent-index l.parents)
