use Rattle.honest_places.proofs.report_laws.unsettled_rules_of_honest_places_are_open.Goals as goal

pub returns : goal.returns
returns c = Rattle.honest_places.proofs.AuditLaws.reports_leave_rules_open
