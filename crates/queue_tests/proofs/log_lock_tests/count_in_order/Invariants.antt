use Rattle.std.proofs.Common.{◌≤◌}
use Rattle.queue_tests.proofs.log_lock_tests.count_in_order.Given as goal

abbrev pub invariant-loop-tick : goal.invariant-loop-tick
invariant-loop-tick l = l.next ≤ l.tick-index
