use Rattle.entry_graph.proofs.Imports.{rules, ◌≡◌, ◌<◌, length, get_or}
use Rattle.entry_graph.proofs.TableFacts.{IsSet, stamps_step}
use Rattle.entry_graph.proofs.strays.stamps_of.Goals as goal

-- one stamp more
pub loop-entry-preserved : goal.loop-entry-preserved
loop-entry-preserved g c =
    let node = g.T.Knot.node in
    let i = c.loop-entry.entry-index in
    let e = c.entry-item.result in
    let within : i < length c.args.given.now = c.loop-entry-test.true in
    let is : e ≡ get_or c.args.given.now i e = search rules in
    let set : IsSet c.loop-entry.stamps c.set.new.self (node e).digest (node e).stamp = λ d. search rules in
    stamps_step node c.args.given.now i e c.loop-entry.stamps c.set.new.self within is c.loop-entry.invariant set
