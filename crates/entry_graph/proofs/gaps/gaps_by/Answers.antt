use Rattle.entry_graph.proofs.gaps.gaps_by.Goals as goal
use Rattle.entry_graph.proofs.{GapFacts.gaps_at_none, Imports.ap, Imports.gaps, Imports.◌∙◌, Imports.◌≡◌}
use Rattle.entry_order.specs.Ascending.{ascending}
use Rattle.std.proofs.lemmas.Result.{IfOk-weaker}

pub returns : goal.returns
returns g c =
    let node = g.T.Knot.node in
    let S = c.args.survivors.now in
    IfOk-weaker c.ascending.result _ (λ digests. digests ≡ gaps node S)
    (λ digests found. found ∙ ap ascending c.in_ok-missing.ensures ∙ gaps_at_none node S c.args.places.now c.requires)
    c.ascending.ensures
