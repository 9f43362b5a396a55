use Rattle.honest_places.proofs.lengths.honest_logs_are_within_their_limit.Goals as goal

pub returns : goal.returns
returns c = Rattle.honest_places.proofs.ShortLogs.logs_are_short
