use Rattle.auditor.proofs.Imports.{stray_lines, string_bytes, take, ◌++◌, ◌≡◌}
use Rattle.auditor.proofs.lines.add_strays.Given as goal

-- the lines of the strays so far
abbrev pub invariant-loop-digest : goal.invariant-loop-digest
invariant-loop-digest l =
    string_bytes l.lines ≡ string_bytes l.fn.lines ++ stray_lines (take l.digest-index l.digests)
