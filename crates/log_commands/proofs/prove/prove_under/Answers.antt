use Rattle.log_commands.proofs.Imports.{and_refused, and_then, ProvesLogs, rules}
use Rattle.log_commands.proofs.prove.prove_under.Goals as goal

pub returns-in-Ok : goal.returns-in-Ok
returns-in-Ok g c =
    and_then g.S.Store _ _ _ _ (ProvesLogs c.args.proof.now) _ _ c.in-Ok.logs _ c.in-Ok.ensures
    c.proof_of_logs.ensures.ok c.proof_of_logs.ensures.err c.proof_of_logs.ensures.only

pub returns-in-Err : goal.returns-in-Err
returns-in-Err g c = search (rules, and_refused)
