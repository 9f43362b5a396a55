use Rattle.honest_places.proofs.report_laws.honest_audits_are_refused_only_so.Goals as goal

pub returns : goal.returns
returns c = Rattle.honest_places.proofs.AuditLaws.audits_are_refused_only_so
