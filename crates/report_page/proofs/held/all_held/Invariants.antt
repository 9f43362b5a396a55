use Rattle.report_page.proofs.held.all_held.Given as goal
use Rattle.report_page.proofs.Imports.{List, map, take, ℕ, ◌≡◌}
use Rattle.report_page.specs.{Entries.is_in_log, inside.Held.has}

-- the logs so far
abbrev pub invariant-loop-log : goal.invariant-loop-log
invariant-loop-log l =
    (d : List ℕ) → map (λ held. has held d) l.all.items ≡ map (is_in_log d) (take l.log-index l.logs)
