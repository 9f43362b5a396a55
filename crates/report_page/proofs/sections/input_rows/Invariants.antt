use Rattle.report_page.proofs.Imports.{◌≡◌, take, map}
use Rattle.report_page.specs.Sections.{input_row}
use Rattle.report_page.proofs.sections.input_rows.Given as goal

-- the rows so far
abbrev pub invariant-loop-input : goal.invariant-loop-input
invariant-loop-input l = l.rows ≡ map (input_row) (take l.input-index l.inputs)
