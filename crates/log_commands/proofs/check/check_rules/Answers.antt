use Rattle.log_commands.proofs.Imports.{logs_have_makers, map, rule_tree, some_as_read, source_named}
use Rattle.log_commands.proofs.CheckAnswers.{logs_end, logs_then}
use Rattle.log_commands.proofs.check.check_rules.Goals as goal

pub check_logs-requires : goal.check_logs-requires
check_logs-requires g c =
    let (files, gives) = some_as_read g.S.Store _ _ _ _ c.in-Ok.ensures.ok.0 in
    record { makers = logs_have_makers _ _ _ files _ gives }

pub returns-in-Ok : goal.returns-in-Ok
returns-in-Ok g c =
    logs_then g.S.Store c.args.read (source_named c.args.word.now) (map rule_tree c.args.rules.items) _ _ _ _ _ _
    c.in-Ok.logs _ c.in-Ok.ensures c.check_logs.ensures

pub returns-in-Err : goal.returns-in-Err
returns-in-Err g c =
    logs_end g.S.Store c.args.read (source_named c.args.word.now) (map rule_tree c.args.rules.items) _ _ _ _ _ _
    c.in-Err.ensures
