use Rattle.log_files.proofs.Imports.{gap_lines, string_bytes, take, ◌++◌, ◌≡◌}
use Rattle.log_files.proofs.report_lines.add_gaps.Given as goal

-- the lines of the gaps so far
abbrev pub invariant-loop-digest : goal.invariant-loop-digest
invariant-loop-digest l =
    string_bytes l.lines ≡ string_bytes l.fn.lines ++ gap_lines (take l.digest-index l.digests)
