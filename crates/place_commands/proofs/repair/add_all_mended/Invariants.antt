use Rattle.place_commands.proofs.Imports.{◌≡◌, ◌++◌, take, string_bytes, mended_lines}
use Rattle.place_commands.proofs.repair.add_all_mended.Given as goal

-- the lines of the steps so far
abbrev pub invariant-loop-step : goal.invariant-loop-step
invariant-loop-step l =
    string_bytes l.lines ≡ string_bytes l.fn.lines ++ mended_lines l.roster.machines (take l.step-index l.steps)
