use Rattle.report_page.proofs.Imports.{◌∙◌, ◌++◌, List, ℕ, ap, report_of, string_bytes}
use Rattle.report_page.specs.Machines.{log_row}
use Rattle.report_page.proofs.Pieces.{pair_more, pairs_all}
use Rattle.report_page.proofs.machines.add_rows_of_logs.Goals as goal

pub loop-i-preserved : goal.loop-i-preserved
loop-i-preserved c =
    pair_more string_bytes (log_row (report_of c.args.report.now).machines c.args.seat) c.args.files.now c.args.logs.now
    c.loop-i.i c.index-files-i.result c.index-logs-i.result c.args.rows.now c.loop-i.rows c.add_log_row.new.rows
    c.requires c.loop-i-test.true c.index-files-i.is c.index-logs-i.is c.loop-i.invariant
    (c.in_ok-add_log_row.ensures
    ∙ ap (λ (name : List ℕ). c.loop-i.rows ++ log_row (report_of c.args.report.now).machines c.args.seat
    (name, c.index-logs-i.result)) c.as_str.ensures.value)

pub returns : goal.returns
returns c =
    pairs_all string_bytes (log_row (report_of c.args.report.now).machines c.args.seat) c.args.files.now c.args.logs.now
    c.loop-i.i c.args.rows.now c.loop-i.rows c.requires c.loop-i-test.false c.loop-i.invariant
