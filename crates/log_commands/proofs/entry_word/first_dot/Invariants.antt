use Rattle.log_commands.proofs.Imports.{All, take, ◌≢◌}
use Rattle.log_commands.proofs.entry_word.first_dot.Given as goal

-- there is no dot so far
abbrev pub invariant-loop-at : goal.invariant-loop-at
invariant-loop-at l = All (λ byte. byte ≢ 46) (take l.at l.word)
