use Rattle.election_script.proofs.Imports.{filter, flat_map, hears, not, range_with_len, ◌++◌, ◌-◌, ◌==◌, ◌≡◌}
use Rattle.election_script.proofs.making.push_others.Given as goal

-- the booths so far
abbrev pub invariant-loop-at : goal.invariant-loop-at
invariant-loop-at l = l.steps.items ≡ l.fn.steps.items ++ flat_map
    (λ other. hears other l.from (range_with_len l.first (l.end - l.first)))
    (filter (λ other. not (other == l.from)) (range_with_len 1 (l.at - 1)))
