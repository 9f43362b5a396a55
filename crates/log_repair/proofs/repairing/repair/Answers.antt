use Rattle.log_repair.proofs.Imports.{◌≡◌, [], rules, node_of_sealed, TakesRound}
use Rattle.log_repair.proofs.Going.{going_start, if_failed, led_from_none, loop_fails, loop_more, shrinks}
use Rattle.log_repair.proofs.Mended.{are_mended}
use Rattle.log_repair.proofs.OneWay.{AnyStep, round_sure, rounds_continue, rounds_mend}
use Rattle.log_repair.proofs.repairing.repair.Goals as goal

pub loop-is_moving-init : goal.loop-is_moving-init
loop-is_moving-init c =
    let none : c.new-steps.result.items ≡ [] = search rules in
    rw none (going_start (λ next log says rest last rounds. rounds_mend node_of_sealed _ _ last rest rounds))

pub loop-is_moving-preserved : goal.loop-is_moving-preserved
loop-is_moving-preserved c =
    loop_more (TakesRound node_of_sealed)
    (λ after. round_sure node_of_sealed after AnyStep (λ _ _ _ _ _. tt))
    (rw c.loop-is_moving-test.true at c.loop-is_moving.invariant) c.in_ok-is_moving.ensures.adds _
    c.in_ok-is_moving.ensures.still

pub loop-is_moving-smaller : goal.loop-is_moving-smaller
loop-is_moving-smaller c =
    rw c.loop-is_moving-test.true (shrinks c.in_ok-is_moving.ensures.adds _ c.in_ok-is_moving.ensures.still)

-- the rest of a round that broke off, and what mends after it, would have mended, and of what the
-- machines are made stays there too
pub returns-in_err-is_moving : goal.returns-in_err-is_moving
returns-in_err-is_moving c =
    let fails = loop_fails (TakesRound node_of_sealed)
    (λ after. round_sure node_of_sealed after AnyStep (λ _ _ _ _ _. tt))
    (rw c.loop-is_moving-test.true at c.loop-is_moving.invariant) c.in_err-is_moving.ensures.err
    (λ next log says u. rounds_continue node_of_sealed next log u) in
    record {
      ok = search rules;
      mended = search rules;
      err = if_failed c.from_residual.result fails.broken;
      roster = fails.made.roster;
      configs = fails.made.configs;
      stops = fails.made.stops;
    }

-- all rounds were taken
pub returns-clause-ok : goal.returns-clause-ok
returns-clause-ok c = led_from_none (rw c.loop-is_moving-test.false at c.loop-is_moving.invariant)

-- each machine that runs is mended at the end
pub returns-clause-mended : goal.returns-clause-mended
returns-clause-mended c =
    let all = rw c.loop-is_moving-test.false at c.loop-is_moving.invariant in
    are_mended c.args.world.now c.loop-is_moving.world c.loop-is_moving.steps.items c.loop-is_moving.invariant.made
    c.order_is_receipt.ensures.world (led_from_none all)
