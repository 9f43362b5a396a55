use Rattle.honest_places.proofs.log_laws.cut_headers_are_none.Goals as goal

pub returns : goal.returns
returns c = Rattle.honest_places.proofs.ReadLogs.cut_has_no_header
