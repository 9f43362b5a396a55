use Rattle.honest_places.proofs.report_laws.honest_places_have_honest_reports.Goals as goal

pub returns : goal.returns
returns c = Rattle.honest_places.proofs.AuditLaws.reports_accuse_nobody
