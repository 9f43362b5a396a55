use Rattle.report_page.proofs.Imports.{◌≡◌, flat_map, range_with_len, report_of}
use Rattle.report_page.specs.Rules.{rule_at}
use Rattle.report_page.proofs.rules.rule_rows.Given as goal

-- the rows so far
abbrev pub invariant-loop-place : goal.invariant-loop-place
invariant-loop-place l = l.rows ≡ flat_map (rule_at l.which l.standard (report_of l.report)) (range_with_len 0 l.place)
