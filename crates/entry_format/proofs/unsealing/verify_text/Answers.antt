use Rattle.entry_format.proofs.unsealing.verify_text.Goals as goal
use Rattle.entry_format.proofs.{Imports.inr, Imports.length, Imports.refl, Imports.text_of, Keys.parts_together}

-- the entry isn't valid
pub returns-in-Err-valid_key-clause-err : goal.returns-in-Err-valid_key-clause-err
returns-in-Err-valid_key-clause-err c = λ wanted.
    let form = c.in-Ok.form in
    let is = c.in-Ok.ensures.ok in
    let bad = rw c.as_slice-machines.ensures at c.in-Err-valid_key.ensures.err in
    inr (form.entry, form.signature.now, is.spelt, is.rising, bad)

-- the entry is valid with its text
pub returns-in-Ok-valid_key-clause-ok : goal.returns-in-Ok-valid_key-clause-ok
returns-in-Ok-valid_key-clause-ok c =
    let form = c.in-Ok.form in
    let is = c.in-Ok.ensures.ok in
    let under = rw c.as_slice-machines.ensures at c.in-Ok-valid_key.ensures.ok in
    record {
      kept = parts_together (text_of c.args.text.now) form.entry form.signature.now c.in-Ok-valid_key.key
          (length form.signature.now) refl is.spelt is.rising under.index under.signs;
      of_text = refl;
      of_election = under.of_election;
      maker = under.maker;
      key = under.of_maker;
    }
