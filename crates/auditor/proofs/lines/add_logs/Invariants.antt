use Rattle.auditor.proofs.Imports.{flat_map, log_lines, map, string_bytes, take, zip, ◌++◌, ◌≡◌}
use Rattle.auditor.proofs.lines.add_logs.Given as goal

-- the lines of the logs so far
abbrev pub invariant-loop-i : goal.invariant-loop-i
invariant-loop-i l =
    string_bytes l.lines
    ≡ string_bytes l.fn.lines ++ flat_map log_lines (take l.i (zip (map string_bytes l.files) l.logs))
