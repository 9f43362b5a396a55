use Rattle.place_commands.proofs.Imports.{◌≡◌, ◌++◌, take, string_bytes, machine_lines}
use Rattle.place_commands.proofs.play.add_machines.Given as goal

-- the lines of the machines so far
abbrev pub invariant-loop-machine : goal.invariant-loop-machine
invariant-loop-machine l =
    string_bytes l.lines ≡ string_bytes l.fn.lines ++ machine_lines (take l.machine-index l.machines)
