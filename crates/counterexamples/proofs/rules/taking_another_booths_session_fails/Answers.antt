use Rattle.counterexamples.proofs.OtherBooth.{taking_another_booths_session_fails}
use Rattle.counterexamples.proofs.rules.taking_another_booths_session_fails.Goals as goal

pub returns : goal.returns
returns c = taking_another_booths_session_fails
