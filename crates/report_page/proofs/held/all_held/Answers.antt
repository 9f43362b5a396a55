use Rattle.report_page.proofs.held.all_held.Goals as goal
use Rattle.report_page.proofs.{Imports.get_or, Imports.LogRead, Imports.◌≡◌, LogDigests.said_more}
use Rattle.report_page.specs.{Entries.is_in_log, inside.Held.has}
use Rattle.std.proofs.Common.{rules}

pub loop-log-preserved : goal.loop-log-preserved
loop-log-preserved c = λ d.
    let log : LogRead = c.log-item.result in
    let i = c.loop-log.log-index in
    let is : log ≡ get_or c.args.logs.now i log = search rules in
    said_more (is_in_log d) (λ held. has held d) c.args.logs.now i log c.loop-log.all.items
    c.push.new.self.items _ (search rules) is (c.loop-log.invariant d) (c.in_ok-held_in.ensures d)
    c.in_ok-push.ensures.items
