use Rattle.entry_graph.proofs.Imports.{rules, ◌≡◌, ◌<◌, length, get_or}
use Rattle.entry_graph.proofs.TableFacts.{IsSet, places_step}
use Rattle.entry_graph.proofs.links.places_of.Goals as goal

-- one place more
pub loop-place-preserved : goal.loop-place-preserved
loop-place-preserved g c =
    let node = g.T.Knot.node in
    let i = c.loop-place.place in
    let e = c.index-survivors-place.result in
    let within : i < length c.args.survivors.now = c.loop-place-test.true in
    let is : e ≡ get_or c.args.survivors.now i e = search rules in
    let set : IsSet c.loop-place.places c.set.new.self (node e).digest i = λ d. search rules in
    places_step node c.args.survivors.now i e c.loop-place.places c.set.new.self within is c.loop-place.invariant set
