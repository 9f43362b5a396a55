use Rattle.polling_world.proofs.Imports.{rules, ◌≡◌, ◌+◌, ◌<◌, ◌∙◌, ◌++◌, ◌∷◌, [], length, get_or, max, take}
use Rattle.polling_world.proofs.Imports.{take_all, node_of_sealed, entry_of, held, greatest_stamp, kind, step_of}
use Rattle.polling_world.proofs.Ranking.{clock_more, steps_more}
use Rattle.polling_world.proofs.merging.rank_events.Goals as goal

-- the step of one event more
pub loop-place-preserved : goal.loop-place-preserved
loop-place-preserved c =
    let node = node_of_sealed in
    let h = c.args.events.now in
    let i = c.loop-place.place in
    let x = c.index-events-place.result in
    let within : i < length h = c.loop-place-test.true in
    let at : x ≡ get_or h i x = search rules in
    let greatest : c.max-clock.result ≡ max c.loop-place.clock (node (entry_of x)).stamp = search rules in
    let clock : c.max-clock.result ≡ greatest_stamp node (held (take (i + 1) h)) =
    greatest ∙ clock_more node h i x c.loop-place.clock within at c.loop-place.invariant.clock in
    let pushed : c.push.new.self.items ≡ c.loop-place.ranked.items ++ record {
      rank = c.max-clock.result ∷ kind x ∷ c.args.machine ∷ i ∷ [];
      step = step_of node c.args.machine x;
    } ∷ [] = search rules in
    record {
      clock = clock;
      ranked = pushed ∙ steps_more node c.args.machine c.args.ranked.now.items h i x c.loop-place.ranked.items
          c.max-clock.result within at c.loop-place.invariant.ranked clock;
    }

pub returns : goal.returns
returns c =
    rw (take_all c.loop-place.place c.args.events.now c.loop-place-test.false) at c.loop-place.invariant.ranked
