use Rattle.rule_exactness.proofs.AllRules.{standard_rules_are_exact}
use Rattle.rule_exactness.proofs.laws.standard_rules_are_exact.Goals as goal

pub returns : goal.returns
returns g c row make can = standard_rules_are_exact g.T.Knot.node row make can
