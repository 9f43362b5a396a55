use Rattle.report_page.proofs.Imports.{◌≡◌, ◌++◌, take, map}
use Rattle.report_page.specs.Findings.{digest_finding}
use Rattle.report_page.proofs.findings.add_digests.Given as goal

-- the rows so far
abbrev pub invariant-loop-digest : goal.invariant-loop-digest
invariant-loop-digest l = l.rows ≡ l.fn.rows ++ map (digest_finding l.word l.next) (take l.digest-index l.digests)
