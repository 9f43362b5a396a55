use Rattle.honest_places.proofs.report_laws.honest_places_keep_the_standard_rules.Goals as goal

pub returns-clause-never_broken : goal.returns-clause-never_broken
returns-clause-never_broken c = Rattle.honest_places.proofs.AuditLaws.reports_say_none_broken

pub returns-clause-kept : goal.returns-clause-kept
returns-clause-kept c = Rattle.honest_places.proofs.AuditLaws.whole_reports_say_all_kept
