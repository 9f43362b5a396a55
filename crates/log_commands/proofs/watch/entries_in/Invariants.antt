use Rattle.log_commands.proofs.Imports.{entries_of, map, take, ◌≡◌}
use Rattle.log_commands.proofs.watch.entries_in.Given as goal

-- the entries of the logs so far
abbrev pub invariant-loop-log : goal.invariant-loop-log
invariant-loop-log l = map (λ e. e.now) l.entries.items ≡ entries_of (take l.log-index l.logs)
