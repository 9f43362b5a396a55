use Rattle.honest_places.proofs.report_laws.whole_audits_show_distinct.Goals as goal

pub returns : goal.returns
returns c = Rattle.honest_places.proofs.AuditLaws.whole_reports_show_distinct
