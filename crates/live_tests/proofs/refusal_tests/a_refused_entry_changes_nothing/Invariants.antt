use Rattle.std.proofs.Common.{◌≡◌}
use Rattle.live_tests.proofs.refusal_tests.a_refused_entry_changes_nothing.Given as goal

-- the audit stays one of the place's machines
abbrev pub invariant-loop-step : goal.invariant-loop-step
invariant-loop-step g l = l.live.machines ≡ l.place.roster.machines
