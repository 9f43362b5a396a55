use Rattle.report_page.proofs.Imports.{◌≡◌, take, map, report_of}
use Rattle.report_page.specs.Gaps.{gap_row}
use Rattle.report_page.proofs.gaps.gap_rows.Given as goal

-- the rows so far
abbrev pub invariant-loop-digest : goal.invariant-loop-digest
invariant-loop-digest l = l.rows ≡ map (gap_row (report_of l.report).graph) (take l.digest-index l.gaps)
