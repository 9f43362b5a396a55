use Rattle.std.proofs.Common.{◌≡◌}
use Rattle.live_tests.proofs.order_tests.differs_at.Given as goal

-- the audit stays one of the place's machines
abbrev pub invariant-loop-added : goal.invariant-loop-added
invariant-loop-added l = l.live.machines ≡ l.place.roster.machines
