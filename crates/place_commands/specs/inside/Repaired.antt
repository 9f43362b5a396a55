-- What the machines of a script come to by playing, mending and finishing.
use Rattle.std.specs.Prelude.{◌≡◌, List, ◌++◌, length, All}
use Rattle.entry_order.specs.declared.step.Step.{Step}
use Rattle.election_script.specs.declared.script.Script.{Script}
use Rattle.polling_world.specs.Keys.{roster_of}
use Rattle.polling_world.specs.Playing.{IsPlayed}
use Rattle.polling_world.specs.Steps.{IsStepOf}
use Rattle.polling_world.specs.Worlds.{WorldState}
use Rattle.place_commands.specs.Repair.{AreMendedBy, with_steps}

-- the world's machines have played, were mended by these steps, and have finished
pub record ComesByRepair (script : Script) (world : WorldState) (mended : List Step) : Type 0 where
  pub finished : List Step
  pub steps : AreMendedBy script mended finished
  pub played : IsPlayed (with_steps (mended ++ finished) script) world.machines
  pub roster : world.roster ≡ roster_of script
  pub there : All (IsStepOf (length world.roster)) mended
