use Rattle.report_page.proofs.sections.add_paragraphs.Given as goal
use Rattle.report_page.proofs.Imports.{take, ◌++◌, ◌≡◌}
use Rattle.report_page.specs.{Cells.passed_texts, Sections.paragraphs}

-- the paragraphs so far
abbrev pub invariant-loop-said : goal.invariant-loop-said
invariant-loop-said l = l.out ≡ l.fn.out ++ paragraphs (passed_texts (take l.said-index l.texts))
