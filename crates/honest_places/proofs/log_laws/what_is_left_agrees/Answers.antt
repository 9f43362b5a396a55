use Rattle.honest_places.proofs.log_laws.what_is_left_agrees.Goals as goal

pub returns : goal.returns
returns c = Rattle.honest_places.proofs.Given.left_agrees
