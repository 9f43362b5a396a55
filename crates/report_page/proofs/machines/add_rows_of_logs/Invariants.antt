use Rattle.report_page.proofs.Imports.{◌≡◌, ◌++◌, report_of, map, string_bytes, take, zip}
use Rattle.report_page.specs.Machines.{rows_of_logs}
use Rattle.report_page.proofs.machines.add_rows_of_logs.Given as goal

-- the rows so far
abbrev pub invariant-loop-i : goal.invariant-loop-i
invariant-loop-i l =
    l.rows
    ≡ l.fn.rows ++ rows_of_logs (report_of l.report).machines l.seat (take l.i (zip (map string_bytes l.files) l.logs))
