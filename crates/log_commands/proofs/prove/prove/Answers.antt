use Rattle.log_commands.proofs.prove.prove.Goals as goal
use Rattle.log_commands.proofs.{Imports.Ok, Imports.or_answered, Imports.or_refused, ProveCommand.prove_is_there}

pub returns-in-Err : goal.returns-in-Err
returns-in-Err g c =
    or_refused g.S.Store _ _ _ _ _ _ c.in-Err.fault _ c.in-Err.ensures c.of_fault.ensures.ok c.of_fault.ensures.err

pub returns-in_ok-answer_of-in-Ok : goal.returns-in_ok-answer_of-in-Ok
returns-in_ok-answer_of-in-Ok g c =
    let told = c.in_ok-answer_of-in-Ok.ensures in
    or_answered g.S.Store _ _ _ _ _ _ c.in-Ok.made (Ok _) c.in-Ok.ensures told (prove_is_there _ _ _ told) tt
