use Rattle.rule_exactness.proofs.TwoSided.{two_sided_rules_are_exact}
use Rattle.rule_exactness.proofs.laws.two_sided_rules_are_exact.Goals as goal

pub returns : goal.returns
returns g c row make can = two_sided_rules_are_exact g.T.Knot.node row make can
