use Rattle.std.proofs.Common.{false}
use Rattle.folder_calls.proofs.Creations.{clears_removed, clears_same, clears_on}
use Rattle.folder_calls.proofs.creating.is_claimed.Goals as goal

pub returns-in-Ok-true-clause-clears : goal.returns-in-Ok-true-clause-clears
returns-in-Ok-true-clause-clears g c =
    clears_on _ _ _ _ (clears_removed _ false _ _ c.lock.ensures.meanwhile) c.is_kept.ensures.clears

pub returns-in-Ok-false-clause-clears : goal.returns-in-Ok-false-clause-clears
returns-in-Ok-false-clause-clears g c = clears_on _ _ _ _ (clears_removed _ false _ _ c.lock.ensures.meanwhile)
    (clears_same _ _ _ c.release.ensures.same)

pub returns-in-Err-clause-clears : goal.returns-in-Err-clause-clears
returns-in-Err-clause-clears g c =
    clears_on _ _ _ _ (clears_removed _ false _ _ c.lock.ensures.meanwhile) c.give_back.ensures.clears
