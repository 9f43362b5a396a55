use Rattle.entangled_picture.proofs.Imports.{◌≡◌, map, take, seen_of}
use Rattle.entangled_picture.proofs.seen.all_seen.Given as goal

-- the survivors so far
abbrev pub invariant-loop-i : goal.invariant-loop-i
invariant-loop-i l =
    l.seen.items ≡ map seen_of (take l.i l.graph.survivors)
