use Rattle.counterexamples.proofs.ClosingEarly.{closing_over_sessions_fails}
use Rattle.counterexamples.proofs.rules.closing_over_sessions_fails.Goals as goal

pub returns : goal.returns
returns c = closing_over_sessions_fails
