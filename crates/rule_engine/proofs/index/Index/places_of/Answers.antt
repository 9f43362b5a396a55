use Rattle.rule_engine.proofs.index.Index.places_of.Goals as goal
use Rattle.rule_engine.proofs.{Imports.arith, Indexed.between_starts, Indexed.starts_rise}

pub slice_bounds-result-count : goal.slice_bounds-result-count
slice_bounds-result-count c = starts_rise c.start-low.ensures c.start-high.ensures (omega arith)

pub slice_bounds-result-start : goal.slice_bounds-result-start
slice_bounds-result-start c = starts_rise c.start-low.ensures c.start-high.ensures (omega arith)

pub returns : goal.returns
returns c rows by indexed =
    let places = between_starts rows by c.args.self.now _ _ _ _ indexed c.start-low.ensures c.start-high.ensures in
    rw c.deref.ensures.value (rw (c.least_of-least.ensures, c.breadth.ensures) at places)
