use Rattle.canonical_sexp.proofs.Imports.{◌∙◌, sym, Bor, List, ℕ, IfSome_then, Atom}
use Rattle.canonical_sexp.proofs.InPlace.{same_text}
use Rattle.canonical_sexp.proofs.in_place.Text.as_atom.Goals as goal

pub returns-clause-found : goal.returns-clause-found
returns-clause-found c = IfSome_then _ c.octets_in.ensures.found (λ (octets : Bor (List ℕ)) is.
    same_text c.args.self.now (Atom octets.now) c.bytes.ensures.0 is.0 (sym c.bytes.ensures.1 ∙ is.1))
