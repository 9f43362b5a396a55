use Rattle.polling_world.proofs.merging.rank_all.Goals as goal
use Rattle.polling_world.proofs.Imports.{ap, arith, get_or, History, history, length-map, machine_of, MachineState}
use Rattle.polling_world.proofs.Imports.{node_of_sealed, rules, SealedEntry, sym, world_of, ◌∙◌, ◌≡◌}
use Rattle.polling_world.proofs.{Placing.history_at, Ranking.ranked_all, Ranking.ranked_more}

-- the steps of one machine's events more
pub loop-at-preserved : goal.loop-at-preserved
loop-at-preserved c =
    let machines = c.args.machines.now in
    let at = c.loop-at.at in
    let m = c.index-machines-at.result in
    let is : m ≡ get_or machines at m = search rules in
    let here : history (world_of machines) at ≡ c.events.result.now =
    history_at machines at m c.loop-at-test.true ∙ ap (λ (n : MachineState). n.events) (sym is)
    ∙ sym (ap (λ (h : History SealedEntry). h.events) c.log.ensures.log) ∙ sym c.events.ensures.events in
    record {
      within = omega (arith, c.loop-at-test.true);
      ranked = ranked_more node_of_sealed (world_of machines) at c.events.result.now c.loop-at.ranked.items
          c.rank_events.new.ranked.items here c.loop-at.invariant.ranked c.in_ok-rank_events.ensures;
    }

pub returns : goal.returns
returns c =
    let machines = c.args.machines.now in
    ranked_all node_of_sealed (world_of machines) c.loop-at.at c.loop-at.ranked.items
    (omega (arith, length-map machines machine_of, c.loop-at-test.false, c.loop-at.invariant.within))
    c.loop-at.invariant.ranked
