use Rattle.honest_places.proofs.log_laws.what_is_left_is_read.Goals as goal

pub returns-clause-header : goal.returns-clause-header
returns-clause-header c = Rattle.honest_places.proofs.ReadLogs.header_in

pub returns-clause-whole : goal.returns-clause-whole
returns-clause-whole c = Rattle.honest_places.proofs.ReadLogs.whole_in
