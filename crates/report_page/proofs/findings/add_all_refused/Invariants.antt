use Rattle.report_page.proofs.Imports.{◌≡◌, ◌++◌, take, map}
use Rattle.report_page.specs.Findings.{refused_finding}
use Rattle.report_page.proofs.findings.add_all_refused.Given as goal

-- the rows so far
abbrev pub invariant-loop-place : goal.invariant-loop-place
invariant-loop-place l = l.rows ≡ l.fn.rows ++ map (refused_finding l.file) (take l.place-index l.refused)
