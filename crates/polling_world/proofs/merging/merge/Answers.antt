use Rattle.polling_world.proofs.Imports.{rules, ◌≡◌, ◌∙◌, map, sym, ap, subst, always_returns_same, IfOk-weaker}
use Rattle.polling_world.proofs.Imports.{node_of_sealed, RankedStep, IsMerged, world_of}
use Rattle.polling_world.proofs.Sorting.{rank_of, merged_from}
use Rattle.polling_world.proofs.merging.merge.Goals as goal

-- the closure gives the rank
pub returns : goal.returns
returns c =
    let machines = c.args.machines.now in
    IfOk-weaker c.steps_of.result _ _
    (λ steps is. subst (IsMerged machines) (sym (is ∙ ap (map (λ (r : RankedStep). r.step)) c.deref.ensures.value))
    (merged_from node_of_sealed (world_of machines) c.in_ok-ranked.ranked.items c.sort_unstable_by_key.new.self.items
    c.in_ok-ranked.ensures c.sort_unstable_by_key.ensures.permutation
    (c.sort_unstable_by_key.ensures.sorted rank_of
    (always_returns_same _ (λ a r. r ≡ rank_of a.0.now) _ (λ a r q k. search rules)))))
    c.steps_of.ensures
