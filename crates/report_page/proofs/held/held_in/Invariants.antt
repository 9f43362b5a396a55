use Rattle.report_page.proofs.held.held_in.Given as goal
use Rattle.log_files.specs.declared.sealed_log.Kept.{Kept}
use Rattle.report_page.proofs.Imports.{List, take, ℕ, ◌≡◌}
use Rattle.report_page.specs.inside.Held.{has}
use Rattle.std.specs.{List.list_any, Str.bytes_eq}

-- the digests so far
abbrev pub invariant-loop-kept : goal.invariant-loop-kept
invariant-loop-kept l =
    (d : List ℕ) →
    has l.held d ≡ list_any (λ (kept : Kept). bytes_eq kept.entry.digest d) (take l.kept-index l.log.kept)
