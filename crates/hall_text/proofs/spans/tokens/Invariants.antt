use Rattle.hall_text.proofs.spans.tokens.Given as goal
use Rattle.hall_text.specs.{Places.CutsNoWord, Tokens.tokens_from}
use Rattle.std.proofs.Common.{drop, length, ◌++◌, ◌-◌, ◌≡◌}

-- the tokens so far, followed by those that are left, are all tokens, and no word goes on at the place
abbrev pub invariant-loop-at : goal.invariant-loop-at
invariant-loop-at l = record {
  all : l.spans.items ++ tokens_from l.at l.at (drop l.at l.text) ≡ tokens_from 0 0 l.text;
  between : CutsNoWord l.text l.at;
}

abbrev pub decreases-loop-at : goal.decreases-loop-at
decreases-loop-at l = length l.text - l.at
