use Rattle.std.proofs.Common.{◌≡◌, ◌<◌}
use Rattle.std.specs.Prelude.{All}
use Rattle.broadcast_queues.specs.Ends.{IsOutOf}
use Rattle.queue_tests.specs.declared.broadcast_queues_tests.Numbered.{Numbered}
use Rattle.queue_tests.proofs.broadcast_queues_tests.put_all.Given as goal

abbrev pub invariant-loop : goal.invariant-loop
invariant-loop g l = IsOutOf l.link l.out × (l.link.from ≡ 7) × All (λ (x : Numbered). x.number < l.next) l.out.put
