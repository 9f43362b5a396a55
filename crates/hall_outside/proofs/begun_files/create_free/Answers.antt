use Rattle.hall_outside.proofs.Imports.{Begun, on_err_weaker, on_ok_weaker, string_bytes}
use Rattle.hall_outside.proofs.Begins.{clear_shown, is_begun}
use Rattle.hall_outside.proofs.begun_files.create_free.Goals as goal

pub returns-in-Err-clause-err : goal.returns-in-Err-clause-err
returns-in-Err-clause-err g c = rw c.reserve.ensures.items
    (clear_shown (string_bytes c.args.file.other_name) c.args.begun.now.items _ _ c.requires.other c.requires.elsewhere
    c.requires.ready (rw c.as_str.ensures.value at c.in-Err.ensures.err))

pub returns-in-Ok : goal.returns-in-Ok
returns-in-Ok g c =
    let b : Begun = record c.args.file { number = c.in-Ok.number } in
    let begun = is_begun b c.args.begun.now.items c.requires.other (rw c.requires.named c.requires.own)
    (rw c.requires.named c.requires.new) c.requires.elsewhere _ _ c.requires.ready
    (rw c.as_str.ensures.value at c.in-Ok.ensures.created) in
    let items = c.reserve.ensures.items in
    record {
      ready = on_ok_weaker c.add.result (λ added. rw added (rw items begun.2)) c.add.ensures.ok;
      ok = on_ok_weaker c.add.result (λ added. rw added (rw (items, ← c.requires.named) begun.1)) c.add.ensures.ok;
      err = on_err_weaker c.add.result (λ same. rw same (rw items begun.0)) c.add.ensures.err;
    }
