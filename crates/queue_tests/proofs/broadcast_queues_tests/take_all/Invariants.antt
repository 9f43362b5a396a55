use Rattle.std.proofs.Common.{◌≤◌}
use Rattle.broadcast_queues.specs.Ends.{IsInOf}
use Rattle.queue_tests.proofs.broadcast_queues_tests.take_all.Given as goal

abbrev pub invariant-loop : goal.invariant-loop
invariant-loop g l = IsInOf l.link l.inn × (l.in_order ≤ l.taken)
