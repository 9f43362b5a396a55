use Rattle.auditor.proofs.Imports.{GivesLogs, length-map, map, report_of, rule_tree, some_as_read, source_of}
use Rattle.auditor.proofs.Imports.{string_bytes, sym, WithLogs, ◌∙◌}
use Rattle.auditor.proofs.{Chained.and_refused, Chained.and_then, Makers.a_log_each, Makers.logs_have_makers}
use Rattle.auditor.proofs.auditing.finish.Goals as goal

pub with_logs-requires-clause-one_each : goal.with_logs-requires-clause-one_each
with_logs-requires-clause-one_each g c =
    let names = map string_bytes c.args.names.now in
    let read = c.args.begun.read in
    let (old, new, are) = c.requires in
    let given = rw c.in-Ok.is at are in
    let (files, gives) = some_as_read g.S.Store names _ old new given.ok.0 in
    sym (length-map c.args.names.now string_bytes)
    ∙ a_log_each read.roster.machines read.election names files c.in-Ok.read.items gives

pub with_logs-requires-clause-makers : goal.with_logs-requires-clause-makers
with_logs-requires-clause-makers g c =
    let names = map string_bytes c.args.names.now in
    let read = c.args.begun.read in
    let (old, new, are) = c.requires in
    let given = rw c.in-Ok.is at are in
    let (files, gives) = some_as_read g.S.Store names _ old new given.ok.0 in
    logs_have_makers read.roster.machines read.election names files c.in-Ok.read.items gives

pub returns-in-Ok : goal.returns-in-Ok
returns-in-Ok g c = λ old new are.
    let names = map string_bytes c.args.names.now in
    let read = c.args.begun.read in
    and_then g.S.Store (λ found. found.items) names (GivesLogs read.roster.machines read.election names) report_of
    (WithLogs read.roster.machines (source_of c.args.from) (map rule_tree c.args.begun.rules.items) names) old new
    c.in-Ok.read c.with_logs.result (rw c.in-Ok.is at are) c.with_logs.ensures.ok c.with_logs.ensures.err
    c.with_logs.ensures.only

pub returns-in-Err : goal.returns-in-Err
returns-in-Err g c = λ old new are.
    let names = map string_bytes c.args.names.now in
    let read = c.args.begun.read in
    and_refused g.S.Store (λ found. found.items) names (GivesLogs read.roster.machines read.election names) report_of
    (WithLogs read.roster.machines (source_of c.args.from) (map rule_tree c.args.begun.rules.items) names) old new
    c.in-Err.fault (rw c.in-Err.is at are)
