use Rattle.report_page.proofs.Imports.{◌≡◌, map, range_with_len, report_of}
use Rattle.report_page.specs.Entries.{survivor_row}
use Rattle.report_page.proofs.entries.entry_rows.Given as goal

-- the rows so far
abbrev pub invariant-loop-place : goal.invariant-loop-place
invariant-loop-place l = l.rows ≡ map (survivor_row (report_of l.report)) (range_with_len 0 l.place)
