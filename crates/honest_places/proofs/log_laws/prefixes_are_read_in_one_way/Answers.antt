use Rattle.honest_places.proofs.log_laws.prefixes_are_read_in_one_way.Goals as goal

pub returns-clause-kept : goal.returns-clause-kept
returns-clause-kept c = Rattle.honest_places.proofs.ReadLogs.same_kept

pub returns-clause-end : goal.returns-clause-end
returns-clause-end c = Rattle.honest_places.proofs.ReadLogs.same_end
