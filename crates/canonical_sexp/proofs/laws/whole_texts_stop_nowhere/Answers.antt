use Rattle.canonical_sexp.proofs.Canonical.{stops_nowhere}
use Rattle.canonical_sexp.proofs.laws.whole_texts_stop_nowhere.Goals as goal

pub returns : goal.returns
returns c = stops_nowhere
