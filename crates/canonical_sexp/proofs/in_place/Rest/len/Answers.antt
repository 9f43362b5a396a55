use Rattle.canonical_sexp.proofs.InPlace.{row_spelt}
use Rattle.canonical_sexp.proofs.in_place.Rest.len.Goals as goal

pub new-rest-requires : goal.new-rest-requires
new-rest-requires c = row_spelt _ c.args.self.now c.bytes.ensures.0 c.bytes.ensures.1
