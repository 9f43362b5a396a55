use Rattle.report_page.proofs.tables.add_titles.Given as goal
use Rattle.report_page.proofs.Imports.{take, ◌++◌, ◌≡◌}
use Rattle.report_page.specs.{Cells.passed_texts, Tables.titles_markup}

-- the titles so far
abbrev pub invariant-loop-title : goal.invariant-loop-title
invariant-loop-title l = l.out ≡ l.fn.out ++ titles_markup (passed_texts (take l.title-index l.titles))
