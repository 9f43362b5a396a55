use Rattle.log_files.proofs.found.read_now.Goals as goal
use Rattle.log_files.proofs.{FoundLogs.read_now, Imports.ap, Imports.Err, Imports.refl}

-- the text came back
pub returns-in-Err : goal.returns-in-Err
returns-in-Err c said =
    read_now c.args.reader.now.machines c.args.reader.now.election said c.args.found.now _ (Err c.in-Err.refused.fault)
    c.requires
    (λ told. rw c.replace-text.ensures.value at (c.in-Err.ensures.err (λ e. told (ap Err e))))
    (refl, refl) refl (rw c.replace-text.ensures.value at c.in-Err.ensures.text)
