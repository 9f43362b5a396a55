use Rattle.std.proofs.Common.{◌≤◌, ◌+◌, length}
use Rattle.core_tests.proofs.booth_core_tests.state_of.Given as goal

-- there is room for the rest
abbrev pub invariant-loop-words : goal.invariant-loop-words
invariant-loop-words l = length l.history ≤ l.state.spare + l.words-index
