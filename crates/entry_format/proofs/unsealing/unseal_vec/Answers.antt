use Rattle.entry_format.proofs.unsealing.unseal_vec.Goals as goal

-- the fault is the text's
pub returns-in-Err-clause-err : goal.returns-in-Err-clause-err
returns-in-Err-clause-err c told = rw c.deref.ensures.value at (c.in-Err.ensures.err told)
