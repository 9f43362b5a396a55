use Rattle.log_commands.proofs.Imports.{checked_line, get_or_from_slice_get, pair_more, pairs_all, rule_tree}
use Rattle.log_commands.proofs.Imports.{string_bytes, sym}
use Rattle.log_commands.proofs.check.add_rules.Goals as goal

pub loop-i-preserved : goal.loop-i-preserved
loop-i-preserved c =
    let now = string_bytes c.loop-i.lines in
    pair_more rule_tree checked_line c.args.rules.now c.args.verdicts.now c.loop-i.i c.index-rules-i.result
    c.verdict_at.result (string_bytes c.args.lines.now) now (string_bytes c.add_rule.new.lines) c.requires
    c.loop-i-test.true c.index-rules-i.is
    (sym (get_or_from_slice_get c.args.verdicts.now c.loop-i.i c.verdict_at.result c.verdict_at.result
    c.verdict_at.ensures))
    c.loop-i.invariant c.in_ok-add_rule.ensures

pub returns : goal.returns
returns c =
    pairs_all rule_tree checked_line c.args.rules.now c.args.verdicts.now c.loop-i.i (string_bytes c.args.lines.now)
    (string_bytes c.loop-i.lines) c.requires c.loop-i-test.false c.loop-i.invariant
