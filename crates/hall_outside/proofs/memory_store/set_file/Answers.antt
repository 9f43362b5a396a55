use Rattle.hall_outside.proofs.memory_store.set_file.Goals as goal
use Rattle.hall_outside.proofs.{FileLists.file_added, FileLists.file_set_at, Imports.refl}

pub returns-in-Some-clause-ok : goal.returns-in-Some-clause-ok
returns-in-Some-clause-ok c =
    file_set_at c.args.files.now.items c.args.name.now c.args.bytes.items c.in-Some.place c.index_mut-file.result.now _
    (rw c.as_slice.ensures.value at c.in-Some.ensures.found) c.index_mut-file.ensures.value refl refl

pub returns-in_ok-push-in-None-clause-ok : goal.returns-in_ok-push-in-None-clause-ok
returns-in_ok-push-in-None-clause-ok c = rw c.in_ok-push-in-None.ensures.items (file_added c.args.files.now.items _
    c.args.name.now c.args.bytes.items (rw c.as_slice.ensures.value at c.in-None.ensures.none)
    c.in_ok-name-in-None.ensures.ok refl)
