use Rattle.counterexamples.proofs.CastOverGaps.{casting_over_gaps_fails}
use Rattle.counterexamples.proofs.rules.casting_over_gaps_fails.Goals as goal

pub returns : goal.returns
returns c = casting_over_gaps_fails
