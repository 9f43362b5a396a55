use Rattle.polling_world.proofs.playing.play.Given as goal
use Rattle.polling_world.proofs.{Imports.drop, Imports.roster_of, Imports.◌≡◌, Played.Leads, Played.Stays}

-- the machines are made of what they were, and what is left of the steps leads where all of them
-- lead
abbrev pub invariant-loop-step : goal.invariant-loop-step
invariant-loop-step l = record {
  stays : Stays l.script l.initial.world.machines l.world.machines;
  roster : l.world.roster ≡ roster_of l.script;
  same : l.steps ≡ l.script.steps;
  leads : Leads l.script l.initial.world.machines l.world.machines (drop l.step-index l.steps);
}
