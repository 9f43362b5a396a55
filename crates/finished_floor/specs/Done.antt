-- Whether a machine did its next action.
use Rattle.std.specs.Prelude.{Bool, true, false}
use Rattle.polling_world.specs.declared.acted.Acted.{Acted}
use Rattle.polling_world.specs.declared.acted.Acted.TheVariants as acted

-- whether the action was done
abbrev pub did : Acted → Bool
did (acted.Did number copies) = true
did acted.Stopped = false
did acted.NoMore = false
did (acted.SupervisorNot cause) = false
did (acted.BoothNot cause) = false
did acted.Full = false
did acted.StampSpent = false
did acted.Spent = false
did acted.SameDigest = false
