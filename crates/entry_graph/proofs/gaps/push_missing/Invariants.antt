use Rattle.entry_graph.proofs.Imports.{◌≡◌, ◌++◌, take, filter, is_none, number_at}
use Rattle.entry_graph.proofs.gaps.push_missing.Given as goal

-- those before, and those of the names so far that are at no place
abbrev pub invariant-loop-name : goal.invariant-loop-name
invariant-loop-name l =
    l.missing.items ≡ l.fn.missing.items
    ++ filter (λ d. is_none (number_at l.places d)) (take l.name-index l.names)
