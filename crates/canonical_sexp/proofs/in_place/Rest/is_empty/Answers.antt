use Rattle.canonical_sexp.proofs.Imports.{◌≡◌, ◌∙◌, ap, sym, length, arith, nat_tests, texts_of}
use Rattle.canonical_sexp.proofs.InPlace.{no_bytes_left}
use Rattle.canonical_sexp.proofs.in_place.Rest.is_empty.Goals as goal

pub returns : goal.returns
returns c = let (_, text) = c.bytes.ensures in (
  λ empty.
      let none : length c.bytes.result.now ≡ 0 = grind (arith, nat_tests) in
      no_bytes_left c.args.self.now (sym (ap length text) ∙ none),
  λ is.
      let none : length c.bytes.result.now ≡ 0 = ap length (text ∙ ap texts_of is) in
      grind (arith, nat_tests),
)
