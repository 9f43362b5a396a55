use Rattle.place_commands.proofs.Imports.{take, string_bytes, SayUndone}
use Rattle.place_commands.proofs.play.undone_lines.Given as goal

-- the lines of the machines so far
abbrev pub invariant-loop-machine : goal.invariant-loop-machine
invariant-loop-machine l = SayUndone (take l.machine-index l.machines) (string_bytes l.lines)
