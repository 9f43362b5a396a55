use Rattle.live_auditor.proofs.Imports.{ap, arith, get_or, length, parents_in, ragged_in, rules}
use Rattle.live_auditor.proofs.Imports.{slice_get-get_or, take_all, taken_more, ◌<◌, ◌∙◌, ◌≡◌, ◌≤◌}
use Rattle.live_auditor.proofs.survivors.links_of.Goals as goal

pub loop-i-preserved : goal.loop-i-preserved
loop-i-preserved c =
    let links = c.args.graph.now.links in
    let i = c.loop-i.i in
    let link = c.in_ok-new.field-0 in
    let within : i < length links = search rules in
    let stands = slice_get-get_or links i link within in
    let parents = c.in_ok-parents.ensures.items ∙ c.parents.ensures.are ∙ ap parents_in stands in
    let ragged = c.ragged.ensures ∙ ap ragged_in stands in
    let same : link ≡ get_or links i link =
    c.in_ok-new.ensures ∙ (λ k. record { parents = parents k; ragged = ragged k }) in
    rw (c.in_ok-push.ensures.items, c.loop-i.invariant, taken_more links i link within same)

pub returns : goal.returns
returns c =
    let past : length c.args.graph.now.links ≤ c.loop-i.i =
    omega (arith, c.requires, c.loop-i-test.false, c.count-i-end.ensures) in
    c.loop-i.invariant ∙ take_all c.loop-i.i c.args.graph.now.links past
