use Rattle.hall_outside.proofs.Imports.{err_from_is_err_and, map-set_same, pair_of, refl}
use Rattle.hall_outside.proofs.FileLists.{appended_at}
use Rattle.hall_outside.proofs.memory_store.append_to.Goals as goal

pub returns-in_ok-extend_from_slice-clause-ok : goal.returns-in_ok-extend_from_slice-clause-ok
returns-in_ok-extend_from_slice-clause-ok c =
    appended_at c.args.files.now.items c.args.name.now c.args.piece.now c.in-Some.place c.index_mut-file.result.now _
    (rw c.as_slice.ensures.value at c.in-Some.ensures.found) c.index_mut-file.ensures.value refl
    c.in_ok-extend_from_slice.ensures.items

pub returns-in_err-extend_from_slice-clause-err : goal.returns-in_err-extend_from_slice-clause-err
returns-in_err-extend_from_slice-clause-err c =
    let file = c.index_mut-file.result.now in
    let p = err_from_is_err_and c.from_residual.result c.from_residual.ensures.1 in
    rw p.1 (map-set_same pair_of c.args.files.now.items c.in-Some.place _ file (rw (
      c.in_err-extend_from_slice.ensures.items,
      ← c.index_mut-file.ensures.value,
    ) refl))
