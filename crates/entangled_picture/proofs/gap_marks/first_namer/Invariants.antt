use Rattle.entangled_picture.proofs.Imports.{◌≡◌, ◌-◌, length, find, slice_get, range_with_len, first_namer, names_it}
use Rattle.entangled_picture.proofs.gap_marks.first_namer.Given as goal

-- none so far
abbrev pub invariant-loop-i : goal.invariant-loop-i
invariant-loop-i l =
    first_namer l.graph.survivors l.digest
    ≡ find (λ place. names_it l.digest (slice_get l.graph.survivors place))
    (range_with_len l.i (length l.graph.survivors - l.i))
