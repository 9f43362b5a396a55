use Rattle.demonstration.proofs.Imports.{[], ◌∷◌, Some, Ok, Err, sha256, text_of, roster_tree, standard_rules}
use Rattle.demonstration.proofs.Imports.{IsLogRefusal, refusal_of, WithLogs, ReportParts, report_of, standard}
use Rattle.demonstration.proofs.Imports.{IfOk-weaker, err_by, logs_have_makers, on_refusal, GivesAudit, log_name}
use Rattle.demonstration.proofs.Reports.{of_log, of_refusal}
use Rattle.demonstration.proofs.shown.report_on.Goals as goal

pub audit_log-requires : goal.audit_log-requires
audit_log-requires c =
    let posts = c.args.roster.machines in
    logs_have_makers posts (sha256 (text_of (roster_tree posts))) (log_name ∷ []) (Some c.args.bytes.now ∷ [])
    (c.in-Ok.log ∷ []) (c.in-Ok.ensures.ok, tt)

pub returns-in-Ok-clause-ok : goal.returns-in-Ok-clause-ok
returns-in-Ok-clause-ok c =
    let posts = c.args.roster.machines in
    let bytes = c.args.bytes.now in
    let log = c.in-Ok.log in
    IfOk-weaker c.audit_log.result
    (λ (report : ReportParts).
    WithLogs posts standard standard_rules (log_name ∷ []) (log ∷ []) (Ok (report_of report)))
    (λ (report : ReportParts). GivesAudit posts bytes (Ok (report_of report)))
    (λ report is. of_log posts c.requires.roster c.requires.short bytes log (Ok (report_of report))
    c.in-Ok.ensures.ok is) c.audit_log.ensures.ok

pub returns-in-Ok-clause-err : goal.returns-in-Ok-clause-err
returns-in-Ok-clause-err c =
    let posts = c.args.roster.machines in
    let bytes = c.args.bytes.now in
    let log = c.in-Ok.log in
    err_by c.audit_log.result
    (λ refusal. WithLogs posts standard standard_rules (log_name ∷ []) (log ∷ []) (Err refusal))
    (λ refusal. GivesAudit posts bytes (Err refusal))
    (λ refusal is. of_log posts c.requires.roster c.requires.short bytes log (Err refusal) c.in-Ok.ensures.ok is)
    c.audit_log.ensures.err

pub returns-in-Err-clause-err : goal.returns-in-Err-clause-err
returns-in-Err-clause-err c =
    let posts = c.args.roster.machines in
    let bytes = c.args.bytes.now in
    on_refusal (λ refusal. IsLogRefusal log_name (Some bytes) refusal) (λ refusal. GivesAudit posts bytes (Err refusal))
    (refusal_of c.in-Err.fault) (λ refusal is. of_refusal posts c.requires.roster c.requires.short bytes refusal is)
    c.in-Err.ensures.err
