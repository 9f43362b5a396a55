use Rattle.std.proofs.Common.{◌≡◌, ◌++◌, drop}
use Rattle.hall_text.specs.Lines.{lines_from}
use Rattle.hall_text.proofs.spans.lines.Given as goal

-- the lines so far, followed by those that are left, are all lines
abbrev pub invariant-loop-at : goal.invariant-loop-at
invariant-loop-at l = l.spans.items ++ lines_from l.start l.at (drop l.at l.text) ≡ lines_from 0 0 l.text
