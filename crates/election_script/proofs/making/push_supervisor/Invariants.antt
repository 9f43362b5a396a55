use Rattle.election_script.proofs.Imports.{Act, Hear, map, range_with_len, supervisor, ◌++◌, ◌-◌, ◌∷◌, ◌≡◌}
use Rattle.election_script.proofs.making.push_supervisor.Given as goal

-- the booths so far
abbrev pub invariant-loop-at : goal.invariant-loop-at
invariant-loop-at l = l.steps.items ≡ l.fn.steps.items
    ++ Act supervisor ∷ map (λ booth. Hear booth supervisor l.number) (range_with_len 1 (l.at - 1))
