use Rattle.folder_tests.proofs.Fresh.{makes}
use Rattle.folder_tests.proofs.memory_folder.create.Goals as goal

-- the call that was made makes the file
pub returns-clause-made : goal.returns-clause-made
returns-clause-made c = makes _ _ _ _ _ (rw c.as_slice-2.ensures.value at c.in-Some.ensures) c.in_ok-call.ensures c.in_ok-perform.ensures.ok
