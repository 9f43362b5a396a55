use Rattle.place_commands.proofs.Imports.{◌≡◌, ◌++◌, map, take, log_file}
use Rattle.place_commands.proofs.play.add_logs.Given as goal

-- the files of the machines so far
abbrev pub invariant-loop-machine : goal.invariant-loop-machine
invariant-loop-machine l =
    l.files.items ≡ l.fn.files.items ++ map (log_file l.prefix) (take l.machine-index l.machines)
