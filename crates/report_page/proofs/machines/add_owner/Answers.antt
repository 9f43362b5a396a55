use Rattle.report_page.proofs.Imports.{◌≡◌, ◌∙◌, ◌++◌, ◌≤◌, ◌<◌, List, Option, ap, sym, refl, get_or, length, slice_get}
use Rattle.std.proofs.Common.{Some, None, rules, subst}
use Rattle.std.specs.Prelude.{OnOk}
use Rattle.std.proofs.lemmas.Option.{slice_get_past, slice_get_read}
use Rattle.roster.specs.declared.post.Post.{Post}
use Rattle.report_page.specs.Machines.{owner_cells}
use Rattle.report_page.proofs.machines.add_owner.Goals as goal

pub returns-in-Some : goal.returns-in-Some
returns-in-Some c =
    let seat = c.args.seat in
    let list = c.as_slice.result.now in
    let post = c.in-Some.post.now in
    let within : seat < length list = search rules in
    let is : post ≡ get_or list seat post = search rules in
    let found : slice_get c.args.report.now.machines seat ≡ Some post =
    ap (λ (all : List Post). slice_get all seat) (sym (c.as_slice.ensures ∙ c.roster.ensures.value))
    ∙ slice_get_read list (length list) seat post refl within is in
    subst (λ (o : Option Post). OnOk c.add_post.result (c.add_post.new.row ≡ c.args.row.now ++ owner_cells o))
    (sym found) c.add_post.ensures

pub returns-in-None : goal.returns-in-None
returns-in-None c =
    let seat = c.args.seat in
    let list = c.as_slice.result.now in
    let past : length list ≤ seat = search rules in
    let none : slice_get c.args.report.now.machines seat ≡ None =
    ap (λ (all : List Post). slice_get all seat) (sym (c.as_slice.ensures ∙ c.roster.ensures.value))
    ∙ slice_get_past list seat past in
    subst (λ (o : Option Post). OnOk c.add_unlisted.result (c.add_unlisted.new.row ≡ c.args.row.now ++ owner_cells o))
    (sym none) c.add_unlisted.ensures
