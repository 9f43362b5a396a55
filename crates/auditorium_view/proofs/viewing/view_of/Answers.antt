use Rattle.auditor.specs.Sources.{source_of}
use Rattle.auditorium_view.specs.inside.Requests.{asked}
use Rattle.auditorium_view.proofs.Viewed.{refused_by, found_by}
use Rattle.auditorium_view.proofs.viewing.view_of.Goals as goal

pub returns-in-Err : goal.returns-in-Err
returns-in-Err g c =
    refused_by g.S.Store c.args.digests.now (asked c.args.request) c.args.store.now c.audit_by.new.store
    (source_of c.rules_from-rules.result) c.in-Err.fault c.of_fault.result c.rules_from-rules.ensures c.in-Err.ensures
    c.of_fault.ensures.ok c.of_fault.ensures.err

pub returns-in-Ok : goal.returns-in-Ok
returns-in-Ok g c =
    found_by g.S.Store c.args.digests.now (asked c.args.request) c.args.store.now c.audit_by.new.store
    (source_of c.rules_from-rules.result) c.in-Ok.report c.answer_of.result c.rules_from-rules.ensures c.in-Ok.ensures
    c.answer_of.ensures.ok c.answer_of.ensures.err
