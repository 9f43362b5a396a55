use Rattle.polling_world.proofs.world.World.step.Goals as goal
use Rattle.polling_world.proofs.{Imports.rules, WorldSteps.after_step}

pub invariant_of-self : goal.invariant_of-self
invariant_of-self c =
    (after_step c.self.inside.roster.machines c.self.inside.machines.items c.args.self.now c.args.step.now
    c.step_in.result c.step_in.new.machines.items c.self.view_is c.self.invariant c.step_in.ensures.ok
    c.step_in.ensures.err).world

pub returns : goal.returns
returns c =
    let after = after_step c.self.inside.roster.machines c.self.inside.machines.items c.args.self.now c.args.step.now
    c.step_in.result c.step_in.new.machines.items c.self.view_is c.self.invariant c.step_in.ensures.ok
    c.step_in.ensures.err in
    record {
      ok = after.ok;
      nothing = after.nothing;
      err = search rules;
      roster = search rules;
      configs = after.configs;
      stops = after.stops;
    }
