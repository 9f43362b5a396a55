use Rattle.std.proofs.Common.{◌≡◌}
use Rattle.live_tests.proofs.refusal_tests.differs_at.Given as goal

-- the audit stays one of the place's machines
abbrev pub invariant-loop-session : goal.invariant-loop-session
invariant-loop-session l = l.live.machines ≡ l.place.roster.machines
