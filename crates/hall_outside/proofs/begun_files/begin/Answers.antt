use Rattle.hall_outside.proofs.Imports.{[], ap, emptied, file_set, now_did, on_err_weaker, on_ok_weaker, shown_files}
use Rattle.hall_outside.proofs.Imports.{StandsInOrder, sym}
use Rattle.hall_outside.proofs.Begins.{held_ready, hold_view, shown_did}
use Rattle.hall_outside.proofs.begun_files.begin.Goals as goal

pub returns-in-Some : goal.returns-in-Some
returns-in-Some g c =
    let bs = c.args.files.now.begun.items in
    let number = c.in-Some.number in
    let found = sym (rw c.as_slice.ensures.value at c.in-Some.ensures) in
    record {
      ready = on_ok_weaker c.empty.result
          (λ did. now_did (StandsInOrder bs) _ _ (λ w. held_ready number [] w bs) did c.requires) c.empty.ensures.ok;
      ok = on_ok_weaker c.empty.result (λ did. shown_did bs bs (λ files. file_set files c.args.name.now [])
          (emptied number) _ _ (λ w ready name. hold_view bs w c.args.name.now number [] name ready.own found) did
          c.requires) c.empty.ensures.ok;
      err = on_err_weaker c.empty.result (λ same. ap (shown_files bs) same) c.empty.ensures.err;
    }

pub begin_new-requires-clause-new : goal.begin_new-requires-clause-new
begin_new-requires-clause-new g c = sym (rw c.as_slice.ensures.value at c.in-None.ensures)
