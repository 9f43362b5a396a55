use Rattle.std.proofs.Common.{false}
use Rattle.folder_calls.proofs.Creations.{clears_removed, clears_same, clears_on}
use Rattle.folder_calls.proofs.creating.remove_unlocked.Goals as goal

pub returns-in_err-is_under-clause-clears : goal.returns-in_err-is_under-clause-clears
returns-in_err-is_under-clause-clears g c = search (clears_on, clears_removed, clears_same)

pub returns-then-branch-clause-clears : goal.returns-then-branch-clause-clears
returns-then-branch-clause-clears g c =
    clears_on _ _ _ _ (clears_removed _ false _ _ c.require_lock.ensures.meanwhile)
    (clears_on _ _ _ _ (clears_same _ _ _ c.is_under.ensures.same) (clears_removed _ _ _ _ c.remove.ensures.did))

pub returns-clause-clears : goal.returns-clause-clears
returns-clause-clears g c = search (clears_on, clears_removed, clears_same)

pub returns-in_err-require_lock-clause-clears : goal.returns-in_err-require_lock-clause-clears
returns-in_err-require_lock-clause-clears g c = search clears_removed
