use Rattle.election_script.proofs.Imports.{hears, range_with_len, ◌++◌, ◌-◌, ◌≡◌}
use Rattle.election_script.proofs.making.push_hears.Given as goal

-- the numbers so far
abbrev pub invariant-loop-number : goal.invariant-loop-number
invariant-loop-number l =
    l.steps.items ≡ l.fn.steps.items ++ hears l.at l.from (range_with_len l.first (l.number - l.first))
