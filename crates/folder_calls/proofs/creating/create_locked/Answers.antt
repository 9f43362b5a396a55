use Rattle.folder_calls.proofs.Creations.{creates_clears, clears_same, clears_on}
use Rattle.folder_calls.proofs.creating.create_locked.Goals as goal

-- the file was created, and is removed again
pub returns-in-Err-clause-err : goal.returns-in-Err-clause-err
returns-in-Err-clause-err g c = clears_on _ _ _ _ (creates_clears _ _ _ _ c.in_ok-number.ensures.created)
    (clears_on _ _ _ _ (clears_same _ _ _ c.require_as_read.ensures.same) c.give_back.ensures.clears)
