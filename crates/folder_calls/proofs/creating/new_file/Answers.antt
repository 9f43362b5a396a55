use Rattle.folder_calls.proofs.Creations.{clears_on, creates_after, tried_clears, where_fails}
use Rattle.folder_calls.proofs.Goes.{goes_none}
use Rattle.folder_calls.proofs.creating.new_file.Goals as goal

pub loop-init : goal.loop-init
loop-init g c = record { clears = goes_none _ _; spared = λ spares. spares }

pub returns-in_err-number-clause-err : goal.returns-in_err-number-clause-err
returns-in_err-number-clause-err g c = where_fails c.from_residual.result _
    (clears_on _ _ _ _ c.loop.invariant.clears c.in_err-number.ensures.err)

pub returns-in_err-number-clause-spared : goal.returns-in_err-number-clause-spared
returns-in_err-number-clause-spared g c spares = c.try_new.ensures.spared (c.loop.invariant.spared spares)

pub returns-in-Some-clause-created : goal.returns-in-Some-clause-created
returns-in-Some-clause-created g c =
    creates_after _ _ _ _ _ c.loop.invariant.clears (rw c.in-Some.is at c.in_ok-number.ensures.tried)

pub returns-in-Some-clause-spared : goal.returns-in-Some-clause-spared
returns-in-Some-clause-spared g c spares = c.try_new.ensures.spared (c.loop.invariant.spared spares)

pub loop-preserved : goal.loop-preserved
loop-preserved g c = record {
  clears = clears_on _ _ _ _ c.loop.invariant.clears (tried_clears _ _ _ _ c.in_ok-number.ensures.tried);
  spared = λ spares. c.try_new.ensures.spared (c.loop.invariant.spared spares);
}
