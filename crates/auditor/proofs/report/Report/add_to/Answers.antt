use Rattle.auditor.proofs.Imports.{ap, length, length-map, map, nodes_of, row_of, rule_tree, sym, ◌∙◌}
use Rattle.auditor.proofs.Below.{as_many, verdicts_below}
use Rattle.auditor.proofs.report.Report.add_to.Goals as goal

pub add_rules-requires-clause-one_each : goal.add_rules-requires-clause-one_each
add_rules-requires-clause-one_each c =
    let report = c.self.inside in
    ap length c.deref-3.ensures.value ∙ sym (length-map report.rules.items rule_tree)
    ∙ as_many (map (row_of report.roster.machines) report.graph.survivors) (nodes_of report.graph)
    (map rule_tree report.rules.items) report.verdicts.items c.self.invariant.judged
    ∙ ap length (sym c.deref-4.ensures.value)

pub add_rules-requires-clause-below : goal.add_rules-requires-clause-below
add_rules-requires-clause-below c =
    let report = c.self.inside in
    let rows = map (row_of report.roster.machines) report.graph.survivors in
    rw (c.deref-4.ensures.value, ← (length-map report.graph.survivors (row_of report.roster.machines)))
    (verdicts_below rows (nodes_of report.graph) (map rule_tree report.rules.items) report.verdicts.items
    c.self.invariant.judged)
