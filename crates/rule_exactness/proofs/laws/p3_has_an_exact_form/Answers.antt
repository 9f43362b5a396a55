use Rattle.rule_exactness.proofs.P3.{exact_p3_is_exact, exact_p3_says_the_same}
use Rattle.rule_exactness.proofs.laws.p3_has_an_exact_form.Goals as goal

pub returns-clause-same : goal.returns-clause-same
returns-clause-same g c row = exact_p3_says_the_same g.T.Knot.node row

pub returns-clause-exact : goal.returns-clause-exact
returns-clause-exact g c row make can = exact_p3_is_exact g.T.Knot.node row make can
