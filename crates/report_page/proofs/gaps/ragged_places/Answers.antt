use Rattle.report_page.proofs.gaps.ragged_places.Goals as goal
use Rattle.entry_graph.specs.EntryGraph.{ragged_of}
use Rattle.report_page.proofs.{Imports.[], Imports.ap, Imports.Bool, Imports.◌++◌, Imports.◌∙◌, Pieces.place_more}
use Rattle.report_page.specs.Gaps.{place_if}

pub loop-place-preserved : goal.loop-place-preserved
loop-place-preserved c =
    let links = c.args.graph.now.links in
    let place = c.loop-place.place in
    let now = c.loop-place.places.items in
    place_more (λ k. place_if (ragged_of links k) k) place [] now c.add_place_if.new.places.items
    c.loop-place.invariant
    (c.in_ok-add_place_if.ensures ∙ ap (λ (so : Bool). now ++ place_if so place) c.ragged.ensures)
