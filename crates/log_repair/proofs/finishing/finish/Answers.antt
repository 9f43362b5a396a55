use Rattle.log_repair.proofs.finishing.finish.Goals as goal
use Rattle.log_repair.proofs.Going.{going_fails, going_more, going_start, if_failed, led_from_none, next_joins}
use Rattle.log_repair.proofs.Imports.{[], ActsOn, node_of_sealed, rules, ◌≡◌}
use Rattle.log_repair.proofs.{Making.sends_with_room, OneWay.finishes_continue, Turns.next_number, Turns.no_number}

pub loop-m-init : goal.loop-m-init
loop-m-init c =
    let none : c.new-steps.result.items ≡ [] = search rules in
    rw none (going_start (λ next log says rest last acts. acts))

pub loop-m-preserved : goal.loop-m-preserved
loop-m-preserved c =
    let acts = c.in_ok-act_on.ensures.ok in
    let next = next_number c.loop-m.m c.world.view_is (search rules) in
    going_more c.loop-m.invariant acts
    (next_joins c.loop-m.world (ActsOn node_of_sealed) c.loop-m.m _ _ next acts.taken)

-- of what the machines are made stays where it breaks off too
pub returns-in_err-act_on : goal.returns-in_err-act_on
returns-in_err-act_on c =
    let next = next_number c.loop-m.m c.world.view_is (search rules) in
    let fails = going_fails c.loop-m.invariant c.in_err-act_on.ensures.err
    (next_joins c.loop-m.world (ActsOn node_of_sealed) c.loop-m.m _ _ next)
    (λ next log says u. finishes_continue node_of_sealed next log (sends_with_room says) _ u) in
    record {
      ok = search rules;
      err = if_failed c.from_residual.result fails.broken;
      roster = fails.made.roster;
      configs = fails.made.configs;
      stops = fails.made.stops;
    }

pub returns-clause-ok : goal.returns-clause-ok
returns-clause-ok c =
    led_from_none (rw (no_number c.loop-m.m c.world.view_is (search rules)) at c.loop-m.invariant)
