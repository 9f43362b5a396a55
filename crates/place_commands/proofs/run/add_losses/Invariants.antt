use Rattle.place_commands.proofs.Imports.{◌≡◌, ◌++◌, take, string_bytes, loss_lines}
use Rattle.place_commands.proofs.run.add_losses.Given as goal

-- the lines of the losses so far
abbrev pub invariant-loop-loss : goal.invariant-loop-loss
invariant-loop-loss l =
    string_bytes l.lines ≡ string_bytes l.fn.lines ++ loss_lines l.roster.machines (take l.loss-index l.losses)
