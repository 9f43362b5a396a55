use Rattle.place_commands.proofs.play.undone_lines.Goals as goal
use Rattle.place_commands.proofs.{Imports.string_bytes, Undone.undone_more}

pub loop-machine-preserved : goal.loop-machine-preserved
loop-machine-preserved c =
    undone_more c.args.machines.now c.loop-machine.machine-index c.machine-item.result c.left.result
    (string_bytes c.loop-machine.lines) (string_bytes c.add_left.new.lines) c.loop-machine-test.true c.machine-item.is
    c.loop-machine.invariant c.left.ensures (rw c.name.ensures at c.in_ok-add_left.ensures)
