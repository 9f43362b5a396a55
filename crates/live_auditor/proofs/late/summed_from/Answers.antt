use Rattle.live_auditor.proofs.late.summed_from.Goals as goal

pub summed_of-requires : goal.summed_of-requires
summed_of-requires c k d within = (c.requires.given.of_machines k d within).maker
