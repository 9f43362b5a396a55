use Rattle.log_commands.proofs.Imports.{and_refused, and_then, Answer, evidence_of, map, rules, some_as_read}
use Rattle.log_commands.proofs.Imports.{source_named, string_bytes, Watches}
use Rattle.log_commands.proofs.WatchReads.{evidence_of_machines}
use Rattle.log_commands.proofs.watch.watch_all.Goals as goal

-- the entries are of the roster's machines
pub watch_evidence-requires : goal.watch_evidence-requires
watch_evidence-requires g c =
    let (files, gives) = some_as_read g.S.Store _ _ _ _ c.in-Ok.ensures.ok.0 in
    evidence_of_machines (map string_bytes c.args.logs.now) (evidence_of c.in-Ok.found) c.args.roster.now
    (source_named c.args.word.now) files gives

pub returns-in-Ok-clause-read : goal.returns-in-Ok-clause-read
returns-in-Ok-clause-read g c =
    let names = map string_bytes c.args.logs.now in
    and_then g.S.Store evidence_of _ _ (λ (answer : Answer). answer) (Watches (source_named c.args.word.now) names) _ _
    c.in-Ok.found _ c.in-Ok.ensures (c.watch_evidence.ensures.ok names) (c.watch_evidence.ensures.err names)
    c.watch_evidence.ensures.only

pub returns-in-Err-clause-read : goal.returns-in-Err-clause-read
returns-in-Err-clause-read g c = search (rules, and_refused)
