-- The value that a verdict says.
use Rattle.entry_order.specs.declared.three.Three.{Three}
use Rattle.entry_order.specs.declared.three.Three.TheVariants as known
use Rattle.rule_engine.specs.declared.verdict.Verdict.{Verdict}
use Rattle.rule_engine.specs.declared.verdict.Verdict.TheVariants.{Kept, Broken, Unsettled}

-- the value of a rule that its verdict says
abbrev pub value_said : Verdict → Three
value_said Kept = known.True
value_said (Broken places) = known.False
value_said Unsettled = known.Unknown
