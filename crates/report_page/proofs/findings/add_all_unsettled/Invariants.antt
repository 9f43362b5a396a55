use Rattle.report_page.proofs.Imports.{◌≡◌, ◌++◌, flat_map, range_with_len, report_of}
use Rattle.report_page.specs.Findings.{unsettled_at}
use Rattle.report_page.proofs.findings.add_all_unsettled.Given as goal

-- the rows so far
abbrev pub invariant-loop-place : goal.invariant-loop-place
invariant-loop-place l = l.rows ≡ l.fn.rows ++ flat_map (unsettled_at (report_of l.report)) (range_with_len 0 l.place)
