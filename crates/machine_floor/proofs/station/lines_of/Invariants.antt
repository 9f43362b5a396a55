use Rattle.machine_floor.proofs.Imports.{◌≡◌, lose_lines_of, take}
use Rattle.machine_floor.proofs.station.lines_of.Given as goal

-- the lines that were read
abbrev pub invariant-loop-at : goal.invariant-loop-at
invariant-loop-at l = l.lines.items ≡ lose_lines_of l.own (take l.at l.loses)
