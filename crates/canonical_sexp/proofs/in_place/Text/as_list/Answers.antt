use Rattle.canonical_sexp.proofs.Imports.{◌∙◌, ap, sym, subst, Fits, Branch}
use Rattle.canonical_sexp.proofs.InPlace.{listed, row_spelt, same_members}
use Rattle.canonical_sexp.proofs.in_place.Text.as_list.Goals as goal

pub new-requires : goal.new-requires
new-requires c =
    let (fits, text) = c.bytes-bytes.ensures in
    let (row, is, spelt) = listed c.bytes-bytes.result.now c.args.self.now fits text c.if-bytes-ne40.false in
    row_spelt _ row (subst Fits is fits) spelt

pub returns-clause-found : goal.returns-clause-found
returns-clause-found c =
    let (fits, text) = c.bytes-bytes.ensures in
    let (row_fits, members) = c.new.ensures in
    let (row, is, spelt) = listed c.bytes-bytes.result.now c.args.self.now fits text c.if-bytes-ne40.false in
    is ∙ ap Branch (same_members row c.new.result (subst Fits is fits) row_fits (sym spelt ∙ members))
