use Rattle.log_files.proofs.Imports.{refused_lines, string_bytes, take, ◌++◌, ◌≡◌}
use Rattle.log_files.proofs.report_lines.add_refused.Given as goal

-- the lines of the records so far
abbrev pub invariant-loop-place : goal.invariant-loop-place
invariant-loop-place l =
    string_bytes l.lines ≡ string_bytes l.fn.lines ++ refused_lines l.name (take l.place-index l.refused)
