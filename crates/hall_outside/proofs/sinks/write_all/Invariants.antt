use Rattle.hall_outside.proofs.Imports.{appended, drop, length, take, ◌-◌, ◌≡◌, ◌≤◌}
use Rattle.hall_outside.proofs.Offers.{Continues}
use Rattle.hall_outside.proofs.sinks.write_all.Given as goal

-- the front of the bytes went out, and the rest is left to be offered
abbrev pub invariant-loop-done : goal.invariant-loop-done
invariant-loop-done g l =
    let sink = g.K.Sink in
    record {
      within : l.done ≤ length l.bytes;
      written : sink.written l.sink ≡ appended (sink.written l.fn.sink) (take l.done l.bytes);
      faults : sink.faults l.sink ≡ sink.faults l.fn.sink;
      offers : Continues sink.writes l.fn.sink l.sink l.bytes (drop l.done l.bytes);
    }

abbrev pub decreases-loop-done : goal.decreases-loop-done
decreases-loop-done g l = length l.bytes - l.done
