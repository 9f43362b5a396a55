use Rattle.canonical_sexp.proofs.Imports.{◌≡◌, ◌∙◌, ap, sym, take_rest, in_front}
use Rattle.canonical_sexp.specs.declared.read.Read.TheVariants as read
use Rattle.canonical_sexp.proofs.InPlace.{taken, spelt, row_spelt, same_text, same_members, none_left}
use Rattle.canonical_sexp.proofs.in_place.Rest.take_next.Goals as goal

pub new-requires : goal.new-requires
new-requires c =
    let (tree, text) = c.in-Whole.ensures in
    let (fits, row) = c.bytes-bytes.ensures in
    let (rest, _, rest_fits, rest_row) = taken _ c.args.self.now _ tree fits row text in
    row_spelt _ rest rest_fits (take_rest c.bytes-bytes.result.now c.in-Whole.used ∙ rest_row)

pub new-requires-in-Whole : goal.new-requires-in-Whole
new-requires-in-Whole c = let (tree, text) = c.in-Whole.ensures in spelt _ tree text.fits text.spelt

pub returns-in-Whole-clause-found : goal.returns-in-Whole-clause-found
returns-in-Whole-clause-found c =
    let (tree, text) = c.in-Whole.ensures in
    let (fits, row) = c.bytes-bytes.ensures in
    let (rest_fits, rest_row) = c.new.ensures in
    let (found_fits, found_text) = c.new-in-Whole.ensures in
    let (rest, is, fitting, spelt) = taken _ c.args.self.now _ tree fits row text in
    let left : rest ≡ c.new.result = same_members rest c.new.result fitting rest_fits
    (sym spelt ∙ rw take_rest at rest_row) in
    let found : tree ≡ c.new-in-Whole.result =
    same_text tree c.new-in-Whole.result text.fits found_fits (sym text.spelt ∙ found_text) in
    is ∙ ap (λ t. in_front t rest) found ∙ ap (in_front c.new-in-Whole.result) left

pub returns-in-Cut : goal.returns-in-Cut
returns-in-Cut c =
    let (fits, row) = c.bytes-bytes.ensures in
    let none = none_left _ c.args.self.now read.Cut fits row c.in-Cut.ensures (λ tree used e. cc) in
    record { found = tt; none = (none, none) }

pub returns-in-Bad : goal.returns-in-Bad
returns-in-Bad c =
    let (fits, row) = c.bytes-bytes.ensures in
    let none = none_left _ c.args.self.now (read.Bad _ _) fits row c.in-Bad.ensures (λ tree used e. cc) in
    record { found = tt; none = (none, none) }
