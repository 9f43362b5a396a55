use Rattle.entry_graph.proofs.Imports.{◌≡◌, ◌∙◌, List, ℕ, Some, length, slice_index_or, refl, ap, sym, subst, arith}
use Rattle.entry_graph.proofs.Imports.{slice_get, Contains, get_or_default, slice_get_read, parents_in, parents_of}
use Rattle.entry_graph.proofs.LinkFacts.{one_link_each}
use Rattle.entry_graph.proofs.graph.GraphArrows.parents.Goals as goal

-- the links descend
pub returns-clause-below : goal.returns-clause-below
returns-clause-below g c = λ k d within.
    let ps : List ℕ = c.parents.result.now in
    let z : ℕ = slice_index_or ps k d in
    let links = c.self.inside.links.items in
    let inside : length c.self.inside.survivors.items ≡ length c.args.self.now.survivors =
    ap (λ graph. length graph.survivors) c.self.view_is in
    let each : length links ≡ length c.self.inside.survivors.items =
    one_link_each g.T.Knot.node c.self.inside.survivors.items links c.self.invariant.linked in
    let there : slice_get links c.args.node ≡ Some c.index.result.now =
    slice_get_read links (length links) c.args.node c.index.result.now refl
    (omega (arith, inside, c.requires, each)) c.index.ensures in
    let are : ps ≡ parents_of links c.args.node = c.parents.ensures ∙ sym (ap parents_in there) in
    c.self.invariant.linked.arrows.descends c.args.node z
    (subst (λ qs. Contains qs z) are (k, within, get_or_default ps k z d within))
