use Rattle.hall_outside.proofs.Imports.{file_appended, IfOk-weaker, longer_by, now_did, StandsInOrder, sym, take, ◌++◌}
use Rattle.hall_outside.proofs.Begins.{held_ready, hold_view, shown_did, view_of}
use Rattle.hall_outside.proofs.begun_files.append_to.Goals as goal

pub returns-in-Some : goal.returns-in-Some
returns-in-Some g c =
    let bs = c.args.begun.now in
    let name = c.args.name.now in
    let number = c.in-Some.number in
    let found = sym c.in-Some.ensures in
    record {
      took = IfOk-weaker c.append.result _ _ (λ n is. record { some = is.some; at_most = is.at_most })
          c.append.ensures.took;
      ok = IfOk-weaker c.append.result _ _ (λ n did. let piece = take n c.args.piece.now in
          shown_did bs bs (λ files. file_appended files name piece) (longer_by number piece) _ _
          (λ w ready other. rw (view_of bs w name number found)
          (hold_view bs w name number ((w.node number).bytes ++ piece) other ready.own found))
          did c.requires.ready) c.append.ensures.ok;
      err = c.append.ensures.err;
      ready = IfOk-weaker c.append.result _ _ (λ n did. now_did (StandsInOrder bs) _ _
          (λ w. held_ready number ((w.node number).bytes ++ take n c.args.piece.now) w bs) did c.requires.ready)
          c.append.ensures.ok;
    }
