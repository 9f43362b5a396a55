use Rattle.canonical_sexp.proofs.Imports.{◌∙◌, ap, sym, arith, length, atom_text}
use Rattle.canonical_sexp.proofs.InPlace.{begins_low, is_atom, after_length, not_cut, not_bad}
use Rattle.canonical_sexp.proofs.scanning.octets_in.Goals as goal

pub returns-then-bytes-eq40-clause-none : goal.returns-then-bytes-eq40-clause-none
returns-then-bytes-eq40-clause-none c = λ octets small e.
    begins_low c.args.bytes.now octets small e c.if-bytes-eq40.true

pub read_length-requires-clause-digit : goal.read_length-requires-clause-digit
read_length-requires-clause-digit c = let (tree, (fits, text)) = c.requires in
    let (_, _, _, digit) = is_atom c.args.bytes.now tree fits text c.if-bytes-eq40.false in digit

pub returns-in-Whole-clause-found : goal.returns-in-Whole-clause-found
returns-in-Whole-clause-found c =
    let (tree, (fits, text)) = c.requires in
    let (octets, few, spelt, _) = is_atom c.args.bytes.now tree fits text c.if-bytes-eq40.false in
    let same = after_length c.args.bytes.now octets _ _ few spelt c.in-Whole.ensures in
    (omega (arith, ap length same, few), spelt ∙ ap atom_text (sym same))

pub returns-in-Cut-clause-none : goal.returns-in-Cut-clause-none
returns-in-Cut-clause-none c = λ octets small e. not_cut _ octets small e c.in-Cut.ensures

pub returns-in-Bad-clause-none : goal.returns-in-Bad-clause-none
returns-in-Bad-clause-none c = λ octets small e. not_bad _ octets _ _ small e c.in-Bad.ensures
