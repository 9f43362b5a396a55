use Rattle.auditor.proofs.Imports.{ap, List, Rule, rule_line, rule_tree, string_bytes, sym, verdict_line, ℕ, ◌++◌, ◌∙◌}
use Rattle.auditor.proofs.Pieces.{pair_more, pairs_all}
use Rattle.auditor.proofs.lines.add_rules.Goals as goal

pub loop-i-preserved : goal.loop-i-preserved
loop-i-preserved c =
    let now = string_bytes c.loop-i.lines in
    let machines = c.args.roster.now.machines in
    let survivors = c.args.graph.now.survivors in
    pair_more rule_tree (rule_line machines survivors) c.args.rules.now c.args.verdicts.now c.loop-i.i
    c.index-rules-i.result c.index-verdicts-i.result (string_bytes c.args.lines.now) now
    (string_bytes c.add_verdict.new.lines) c.requires.one_each c.loop-i-test.true c.index-rules-i.is
    c.index-verdicts-i.is c.loop-i.invariant
    (c.in_ok-add_verdict.ensures
    ∙ ap (λ (name : List ℕ). now ++ verdict_line machines survivors name c.index-verdicts-i.result)
    (c.as_str.ensures.value ∙ ap (λ (rule : Rule). string_bytes rule.name) (sym c.index-rules-i.is)))

pub returns : goal.returns
returns c =
    pairs_all rule_tree (rule_line c.args.roster.now.machines c.args.graph.now.survivors) c.args.rules.now
    c.args.verdicts.now c.loop-i.i (string_bytes c.args.lines.now) (string_bytes c.loop-i.lines) c.requires.one_each
    c.loop-i-test.false c.loop-i.invariant
