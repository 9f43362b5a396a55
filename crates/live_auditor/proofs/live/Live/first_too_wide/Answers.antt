use Rattle.live_auditor.proofs.Imports.{IfNone, IfSome_then, None, Ok, Option, Some, ◌≡◌}
use Rattle.live_auditor.proofs.live.Live.first_too_wide.Goals as goal

-- what holds where no value is there follows from what does
if_none_weaker : {X : Type 0} {P Q : Type 0} (found : Option X) → (P → Q) → IfNone found P → IfNone found Q
if_none_weaker None more h = more h
if_none_weaker (Some x) more h = h

-- over the rows that are kept is over the survivors
pub returns-clause-some : goal.returns-clause-some
returns-clause-some c =
    let kept = c.self.invariant.0 in
    let after = kept.live.after in
    IfSome_then c.first_too_wide.result c.first_too_wide.ensures.some (λ place wide.
    rw (← c.self.view_is) (after.graph, after.graphed, rw (c.as_slice.ensures.value, kept.survivors.rows) at wide))

pub returns-clause-none : goal.returns-clause-none
returns-clause-none c =
    let kept = c.self.invariant.0 in
    let after = kept.live.after in
    if_none_weaker c.first_too_wide.result (λ none place wide.
    let (graph, graphed, first) = rw (← c.self.view_is) at wide in
    let found : Ok graph ≡ Ok after.graph =
    c.entries_give_one_graph.ensures c.self.inside.added.items (Ok graph) (Ok after.graph) graphed after.graphed in
    let same : graph ≡ after.graph = cc in
    none place (rw (c.as_slice.ensures.value, kept.survivors.rows, ← same) first)) c.first_too_wide.ensures.none
