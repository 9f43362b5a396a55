use Rattle.log_files.proofs.sealed_reader.SealedReader.read_vec.Goals as goal

-- the roster and the election are those that the reader verifies by
pub returns-in-Err-clause-err : goal.returns-in-Err-clause-err
returns-in-Err-clause-err c = λ told. rw (← c.self.view_is) (c.in-Err.ensures.err told)
