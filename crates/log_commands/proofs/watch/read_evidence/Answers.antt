use Rattle.log_commands.proofs.Imports.{file_ends, file_joins}
use Rattle.log_commands.proofs.watch.read_evidence.Goals as goal

pub returns-in-Ok : goal.returns-in-Ok
returns-in-Ok g c = file_joins g.S.Store _ _ _ _ _ _ _ _ _ c.in-Ok.read _ c.in-Ok.ensures c.read_with_roster.ensures

pub returns-in-Err : goal.returns-in-Err
returns-in-Err g c = file_ends g.S.Store _ _ _ _ _ _ _ _ c.in-Err.fault c.in-Err.ensures
