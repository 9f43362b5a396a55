use Rattle.demonstration.proofs.Imports.{take, ◌≡◌, ◌*◌, ◌^◌, ◌≤◌, length, sent_in, world_of}
use Rattle.demonstration.proofs.shown.count_sent.Given as goal

-- the entries of the machines so far are counted, each of which sent fewer than 32 bits count
abbrev pub invariant-loop-machine : goal.invariant-loop-machine
invariant-loop-machine l = record {
  counted : l.count ≡ length (sent_in (world_of (take l.machine-index l.machines)));
  small : l.count ≤ l.machine-index * 2 ^ 32;
}
