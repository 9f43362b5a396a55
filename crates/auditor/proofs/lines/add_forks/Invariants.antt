use Rattle.auditor.proofs.Imports.{fork_lines, string_bytes, take, ◌++◌, ◌≡◌}
use Rattle.auditor.proofs.lines.add_forks.Given as goal

-- the lines of the forks so far
abbrev pub invariant-loop-maker : goal.invariant-loop-maker
invariant-loop-maker l =
    string_bytes l.lines ≡ string_bytes l.fn.lines ++ fork_lines l.roster.machines (take l.maker-index l.forks)
