use Rattle.folder_tests.proofs.Fresh.{did}
use Rattle.folder_tests.proofs.memory_folder.append.Goals as goal

-- the call that was made appends the piece
pub returns-clause-ok : goal.returns-clause-ok
returns-clause-ok c = did _ _ _ _ c.in_ok-call.ensures c.in_ok-perform.ensures.ok
