use Rattle.report_page.proofs.Imports.{◌∙◌, ◌++◌, List, ℕ, ap, string_bytes}
use Rattle.report_page.specs.Findings.{log_torn}
use Rattle.report_page.proofs.Pieces.{pair_more, pairs_all}
use Rattle.report_page.proofs.findings.add_all_torn.Goals as goal

pub loop-i-preserved : goal.loop-i-preserved
loop-i-preserved c =
    pair_more string_bytes log_torn c.args.files.now c.args.logs.now c.loop-i.i c.index-files-i.result
    c.index-logs-i.result c.args.rows.now c.loop-i.rows c.add_torn.new.rows c.requires c.loop-i-test.true
    c.index-files-i.is c.index-logs-i.is c.loop-i.invariant
    (c.in_ok-add_torn.ensures
    ∙ ap (λ (name : List ℕ). c.loop-i.rows ++ log_torn (name, c.index-logs-i.result)) c.as_str.ensures.value)

pub returns : goal.returns
returns c =
    pairs_all string_bytes log_torn c.args.files.now c.args.logs.now c.loop-i.i c.args.rows.now c.loop-i.rows
    c.requires c.loop-i-test.false c.loop-i.invariant
