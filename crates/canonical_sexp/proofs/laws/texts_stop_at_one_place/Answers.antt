use Rattle.canonical_sexp.proofs.Canonical.{one_stop}
use Rattle.canonical_sexp.proofs.laws.texts_stop_at_one_place.Goals as goal

pub returns : goal.returns
returns c = one_stop
