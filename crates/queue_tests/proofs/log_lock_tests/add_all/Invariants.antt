use Rattle.std.proofs.Common.{◌≡◌, ◌≤◌}
use Rattle.queue_tests.proofs.log_lock_tests.add_all.Given as goal

abbrev pub invariant-loop-what : goal.invariant-loop-what
invariant-loop-what g l = (l.pass.lock ≡ l.lock) × (l.pass.number ≡ l.fn.pass.number) × (l.refused ≤ l.what)
