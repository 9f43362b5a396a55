use Rattle.live_auditor.proofs.summary.summed_by.Goals as goal

pub returns-in-Err-clause-err : goal.returns-in-Err-clause-err
returns-in-Err-clause-err c = rw (c.as_slice.ensures.value, c.in_ok-seen.ensures) at c.in-Err.ensures.err
