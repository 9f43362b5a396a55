use Rattle.entry_graph.proofs.Imports.{◌≡◌, take, filter, is_none, number_at}
use Rattle.std.specs.List.{flat_map}
use Rattle.entry_graph.proofs.gaps.missing_in.Given as goal

-- the names of the survivors so far that are at no place
abbrev pub invariant-loop-survivor : goal.invariant-loop-survivor
invariant-loop-survivor g l =
    l.missing.items ≡ filter (λ d. is_none (number_at l.places d))
    (flat_map (λ e. (g.T.Knot.node e).names) (take l.survivor-index l.survivors))
