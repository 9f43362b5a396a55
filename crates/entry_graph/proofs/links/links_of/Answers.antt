use Rattle.entry_graph.proofs.Imports.{rules, ◌≡◌, ◌<◌, ◌++◌, ◌∙◌, ◌∷◌, [], length, get_or, map_push, take, ap, sym}
use Rattle.entry_graph.proofs.Imports.{take_all, taken_more, links_by, links_of, number_at}
use Rattle.entry_graph.proofs.LinkFacts.{links_are_right}
use Rattle.entry_graph.proofs.links.links_of.Goals as goal

-- the links of one survivor more
pub loop-survivor-preserved : goal.loop-survivor-preserved
loop-survivor-preserved g c =
    let node = g.T.Knot.node in
    let S = c.args.survivors.now in
    let i = c.loop-survivor.survivor-index in
    let e = c.survivor-item.result in
    let table = c.args.places.now in
    let l = c.in_ok-links_at.field-0 in
    let within : i < length S = c.loop-survivor-test.true in
    let is : e ≡ get_or S i e = search rules in
    let pushed : c.push.new.self.items ≡ c.loop-survivor.links.items ++ l ∷ [] = search rules in
    let here : l ≡ links_by (number_at table) (node e).names =
    c.in_ok-links_at.ensures ∙ ap (links_by (number_at table)) c.names.ensures in
    pushed ∙ (λ k. c.loop-survivor.invariant k ++ here k ∷ [])
    ∙ sym (ap (links_of node table) (taken_more S i e within is)
    ∙ map_push (λ e. links_by (number_at table) (node e).names) (take i S) e)

pub returns : goal.returns
returns g c =
    let node = g.T.Knot.node in
    let S = c.args.survivors.now in
    let table = c.args.places.now in
    links_are_right node S table c.loop-survivor.links.items c.requires.distinct c.requires.numbered
    c.requires.falling c.requires.places
    (c.loop-survivor.invariant
    ∙ ap (links_of node table) (take_all c.loop-survivor.survivor-index S c.loop-survivor-test.false))
