use Rattle.polling_world.proofs.Imports.{◌∙◌, refl, Act}
use Rattle.polling_world.proofs.Played.{leads_first, leads_more, step_of, played_whole}
use Rattle.polling_world.proofs.playing.play.Goals as goal

pub loop-step-init : goal.loop-step-init
loop-step-init c = record {
  stays = record { fresh = c.in_ok-world.ensures.machines; configs = refl; stops = refl };
  roster = c.in_ok-world.ensures.roster;
  same = c.as_slice-steps.ensures;
  leads =
      leads_first c.args.script.now c.in_ok-world.world.machines c.as_slice-steps.result.now c.as_slice-steps.ensures;
}

pub step-requires : goal.step-requires
step-requires c =
    step_of c.args.script.now c.in_ok-world.world.machines c.loop-step.world.machines c.as_slice-steps.result.now
    c.loop-step.step-index (Act 0) c.requires.lawful c.loop-step.invariant.stays c.loop-step.invariant.same
    c.loop-step-test.true

pub loop-step-preserved : goal.loop-step-preserved
loop-step-preserved c =
    let is = c.loop-step.invariant in
    let stepped = c.in_ok-_stepped.ensures in
    record {
      stays = record {
        fresh = is.stays.fresh;
        configs = stepped.configs ∙ is.stays.configs;
        stops = stepped.stops ∙ is.stays.stops;
      };
      roster = stepped.roster ∙ is.roster;
      same = is.same;
      leads = leads_more c.args.script.now c.in_ok-world.world.machines c.loop-step.world.machines
          c.step.new.self.machines c.as_slice-steps.result.now c.loop-step.step-index (Act 0) c.loop-step-test.true
          is.stays stepped.ok is.leads;
    }

pub returns-clause-machines : goal.returns-clause-machines
returns-clause-machines c =
    played_whole c.args.script.now c.in_ok-world.world.machines c.loop-step.world.machines c.as_slice-steps.result.now
    c.loop-step.step-index c.loop-step-test.false c.loop-step.invariant.stays c.loop-step.invariant.leads
