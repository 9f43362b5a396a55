use Rattle.honest_places.proofs.lengths.a_machine_names_each_digest_once.Goals as goal

pub returns : goal.returns
returns g c = Rattle.honest_places.proofs.ShortLogs.named_once (g.T.Knot.node)
