use Rattle.entry_format.proofs.Imports.{◌∙◌}
use Rattle.entry_format.proofs.unsealing.unseal_text.Goals as goal

-- the entry has a copy of the text
pub returns-in-Ok-sealed_with : goal.returns-in-Ok-sealed_with
returns-in-Ok-sealed_with c = λ told.
    let same = c.in_ok-copy-in-Ok.ensures.items ∙ c.bytes-bytes.ensures.1 in
    rw same at (c.in-Ok-sealed_with.ensures.ok c.args.roster.now.machines c.args.election.now
    (rw same c.in-Ok.ensures.ok))
