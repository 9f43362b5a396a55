use Rattle.report_page.proofs.Imports.{◌≡◌, ◌++◌, take, map, report_of}
use Rattle.report_page.specs.Findings.{fork_finding}
use Rattle.report_page.proofs.findings.add_forks.Given as goal

-- the rows so far
abbrev pub invariant-loop-maker : goal.invariant-loop-maker
invariant-loop-maker l = l.rows ≡ l.fn.rows ++ map (fork_finding (report_of l.report)) (take l.maker-index l.forks)
