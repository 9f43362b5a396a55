use Rattle.entangled_picture.proofs.Imports.{◌≡◌, option_to_list, flat_map, range_with_len, loss_at}
use Rattle.entangled_picture.proofs.gap_marks.losses_of.Given as goal

-- the arrows so far
abbrev pub invariant-loop-i : goal.invariant-loop-i
invariant-loop-i l =
    l.losses.items
    ≡ flat_map (λ place. option_to_list (loss_at l.graph l.placed l.digest l.to place)) (range_with_len 0 l.i)
