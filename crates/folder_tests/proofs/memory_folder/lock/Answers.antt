use Rattle.folder_tests.proofs.Fresh.{removed_meanwhile}
use Rattle.folder_tests.proofs.memory_folder.lock.Goals as goal

-- another program has removed the name
pub returns-in_ok-perform-clause-meanwhile : goal.returns-in_ok-perform-clause-meanwhile
returns-in_ok-perform-clause-meanwhile c = removed_meanwhile _ _ _ _ c.in_ok-call.ensures c.in_ok-perform.ensures.ok
