use Rattle.folder_calls.proofs.Creations.{clears_created, clears_same, clears_on, made_creates, where_fails}
use Rattle.folder_calls.proofs.creating.try_new.Goals as goal

pub returns-in_err-number-clause-err : goal.returns-in_err-number-clause-err
returns-in_err-number-clause-err g c =
    where_fails c.from_residual.result _ (clears_same _ _ _ c.in_err-number.ensures.err)

pub returns-in_err-is_claimed-in-Some-clause-err : goal.returns-in_err-is_claimed-in-Some-clause-err
returns-in_err-is_claimed-in-Some-clause-err g c =
    let (did, fresh) = rw c.in-Some.is at c.in_ok-number.ensures.made in
    where_fails c.from_residual-in_err-is_claimed-in-Some.result _
    (clears_on _ _ _ _ (clears_created _ _ _ _ did fresh) c.is_claimed.ensures.clears)

pub returns-then-branch-clause-tried : goal.returns-then-branch-clause-tried
returns-then-branch-clause-tried g c =
    let (did, fresh) = rw c.in-Some.is at c.in_ok-number.ensures.made in
    made_creates _ _ _ _ _ did fresh (c.in_ok-is_claimed-in-Some.ensures.same c.if-branch.true)

pub returns-else-branch-clause-tried : goal.returns-else-branch-clause-tried
returns-else-branch-clause-tried g c =
    let (did, fresh) = rw c.in-Some.is at c.in_ok-number.ensures.made in
    clears_on _ _ _ _ (clears_created _ _ _ _ did fresh) c.is_claimed.ensures.clears
