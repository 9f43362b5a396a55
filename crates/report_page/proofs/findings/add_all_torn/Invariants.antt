use Rattle.report_page.proofs.Imports.{◌≡◌, ◌++◌, flat_map, map, string_bytes, take, zip}
use Rattle.report_page.specs.Findings.{log_torn}
use Rattle.report_page.proofs.findings.add_all_torn.Given as goal

-- the rows so far
abbrev pub invariant-loop-i : goal.invariant-loop-i
invariant-loop-i l = l.rows ≡ l.fn.rows ++ flat_map log_torn (take l.i (zip (map string_bytes l.files) l.logs))
