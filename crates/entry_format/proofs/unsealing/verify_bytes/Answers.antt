use Rattle.entry_format.proofs.unsealing.verify_bytes.Goals as goal

-- the bytes are the text of the tree
pub returns-in-Ok-clause-err : goal.returns-in-Ok-clause-err
returns-in-Ok-clause-err c = rw c.in-Ok.ensures.ok.1 c.verify_text.ensures.err
