use Rattle.log_repair.proofs.taking.take.Goals as goal
use Rattle.log_repair.proofs.Going.{fails_here, going_none, if_failed}
use Rattle.log_repair.proofs.Imports.{[], ap, inl, IsMadeAsBefore, List, node_of_sealed, refl, Step, WorldState, ◌++◌}
use Rattle.log_repair.proofs.{Imports.◌∙◌, Imports.◌∷◌, Making.changed_world, Making.one_less, OneWay.step_continues}

-- what is done changes the world, and is added
pub returns-in-Did-clause-ok : goal.returns-in-Did-clause-ok
returns-in-Did-clause-ok c =
    let does = c.in_ok-step.ensures in
    let old : WorldState = c.args.world.now in
    let made : IsMadeAsBefore old c.step.new.self =
    record { roster = does.roster; configs = does.configs; stops = does.stops } in
    let differ = changed_world old c.step.new.self c.order_is_receipt.ensures.world made
    (λ same. cc (does.nothing.1 same, c.in-Did.is)) in
    record {
      made = made;
      taken = c.args.step ∷ [];
      added = c.push_reserved.ensures.items
          ∙ ap (λ (s : List Step). s ++ c.args.step ∷ []) c.in_ok-reserve.ensures.items;
      spared = one_less old c.step.new.self c.args.step c.order_is_receipt.ensures.world made c.requires.adds does.ok
          differ;
      played = λ next log says. does.ok next log says.tells says.have;
      leads = λ next log says rest last (bare, same).
          rw (bare, same) (does.ok next log says.tells says.have, inl (differ, refl));
    }

-- where memory is refused the world is as it was, and the step may still be taken
pub returns-in_err-reserve-clause-err : goal.returns-in_err-reserve-clause-err
returns-in_err-reserve-clause-err c =
    if_failed c.from_residual.result
    (fails_here (going_none {start = []})
    (λ next log says u. step_continues node_of_sealed next log c.args.step c.requires.adds u))

pub returns-in_err-step-clause-err : goal.returns-in_err-step-clause-err
returns-in_err-step-clause-err c =
    if_failed c.from_residual-in_err-step.result
    (rw c.in_err-step.ensures.err (fails_here (going_none {start = []})
    (λ next log says u. step_continues node_of_sealed next log c.args.step c.requires.adds u)))
