use Rattle.auditor.proofs.Imports.{ap, List, log_lines, string_bytes, ℕ, ◌++◌, ◌∙◌}
use Rattle.auditor.proofs.Pieces.{pair_more, pairs_all}
use Rattle.auditor.proofs.lines.add_logs.Goals as goal

pub loop-i-preserved : goal.loop-i-preserved
loop-i-preserved c =
    let now = string_bytes c.loop-i.lines in
    let log = c.index-logs-i.result in
    pair_more string_bytes log_lines c.args.files.now c.args.logs.now c.loop-i.i c.index-files-i.result log
    (string_bytes c.args.lines.now) now (string_bytes c.add_log.new.lines) c.requires c.loop-i-test.true
    c.index-files-i.is c.index-logs-i.is c.loop-i.invariant
    (c.in_ok-add_log.ensures ∙ ap (λ (name : List ℕ). now ++ log_lines (name, log)) c.as_str.ensures.value)

pub returns : goal.returns
returns c =
    pairs_all string_bytes log_lines c.args.files.now c.args.logs.now c.loop-i.i (string_bytes c.args.lines.now)
    (string_bytes c.loop-i.lines) c.requires c.loop-i-test.false c.loop-i.invariant
