use Rattle.log_commands.proofs.Imports.{length-map, map, Ok, or_answered, or_refused, proofs_say_no_more, report_by}
use Rattle.log_commands.proofs.Imports.{rule_tree, some_as_read, source_named, string_bytes, sym, ◌∙◌}
use Rattle.log_commands.proofs.CheckSound.{a_verdict_each, check_found, check_right}
use Rattle.log_commands.proofs.check.check.Goals as goal

-- there is a verdict for each rule
pub answer_of-requires : goal.answer_of-requires
answer_of-requires g c =
    let report = report_by c.in-Ok.checked in
    let (files, gives) = some_as_read g.S.Store _ _ _ _ c.in-Ok.ensures.ok.0 in
    sym (length-map c.in-Ok.checked.rules.items rule_tree) ∙ a_verdict_each report (check_found report
    c.args.roster.now (source_named c.args.rules.now) c.args.proof.now (map string_bytes c.args.logs.now) files gives)

pub returns-in-Err : goal.returns-in-Err
returns-in-Err g c =
    or_refused g.S.Store _ _ _ _ _ _ c.in-Err.fault _ c.in-Err.ensures c.of_fault.ensures.ok c.of_fault.ensures.err

pub returns-in_ok-answer_of-in-Ok : goal.returns-in_ok-answer_of-in-Ok
returns-in_ok-answer_of-in-Ok g c =
    let report = report_by c.in-Ok.checked in
    let (files, gives) = some_as_read g.S.Store _ _ _ _ c.in-Ok.ensures.ok.0 in
    let found = check_found report c.args.roster.now (source_named c.args.rules.now) c.args.proof.now
    (map string_bytes c.args.logs.now) files gives in
    or_answered g.S.Store _ _ _ _ _ _ c.in-Ok.checked (Ok _) c.in-Ok.ensures
    (check_right report proofs_say_no_more found _ c.in_ok-answer_of-in-Ok.ensures.told)
    c.in_ok-answer_of-in-Ok.ensures.status tt
