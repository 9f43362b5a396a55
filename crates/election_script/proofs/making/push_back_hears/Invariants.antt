use Rattle.election_script.proofs.Imports.{hears, range_with_len, reverse, supervisor, ◌++◌, ◌-◌, ◌≡◌, ◌≤◌}
use Rattle.election_script.proofs.making.push_back_hears.Given as goal

-- the numbers so far, which are the last
abbrev pub invariant-loop-number : goal.invariant-loop-number
invariant-loop-number l = record {
  within : l.first ≤ l.number;
  heard : l.steps.items ≡ l.fn.steps.items
      ++ hears supervisor l.from (reverse (range_with_len l.number (l.end - l.number)));
}
