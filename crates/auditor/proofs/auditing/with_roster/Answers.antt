use Rattle.auditor.proofs.Imports.{ap, map, report_of, rule_tree, source_of, WithRules}
use Rattle.auditor.proofs.Chained.{rules_end, rules_then, standard_then}
use Rattle.auditor.proofs.auditing.with_roster.Goals as goal

-- with the roster read, the standard rules are there
pub returns-in-Ok : goal.returns-in-Ok
returns-in-Ok g c = λ names result new.
    let source = source_of c.args.from in
    standard_then g.S.Store report_of (λ rules. WithRules c.args.read source rules names) source names
    (map rule_tree c.in-Ok.rules.items) c.args.store.now new result (ap source_of c.in-Standard.is) c.in-Ok.ensures

-- and the rules of a file are read before the logs, and judge them
pub returns-in-Ok-read_rules : goal.returns-in-Ok-read_rules
returns-in-Ok-read_rules g c = λ names result new.
    let source = source_of c.args.from in
    rules_then g.S.Store report_of (λ rules. WithRules c.args.read source rules names) source names
    (λ rules. map rule_tree rules.items) c.in-File.name.now (ap source_of c.in-File.is) c.args.store.now
    c.read_rules.new.store new c.in-Ok-read_rules.rules result c.in-Ok-read_rules.ensures

pub returns-in-Err-read_rules : goal.returns-in-Err-read_rules
returns-in-Err-read_rules g c = λ names.
    let source = source_of c.args.from in
    rules_end g.S.Store report_of (λ rules. WithRules c.args.read source rules names) source names
    (λ rules. map rule_tree rules.items) c.in-File.name.now (ap source_of c.in-File.is) c.args.store.now
    c.read_rules.new.store c.in-Err-read_rules.fault c.in-Err-read_rules.ensures
