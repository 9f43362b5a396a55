use Rattle.hall_outside.proofs.memory_store.find.Goals as goal
use Rattle.hall_outside.proofs.{FileLists.found, FileLists.searched, Imports.sym}

pub returns-then-eq-clause-found : goal.returns-then-eq-clause-found
returns-then-eq-clause-found c =
    found c.args.files.now c.args.name.now c.loop-i.i c.index-files-i.result c.loop-i-test.true c.index-files-i.is
    (rw c.as_str.ensures.value at (sym c.if-eq.ensures)) c.loop-i.invariant.place

pub loop-i-preserved : goal.loop-i-preserved
loop-i-preserved c =
    let step = searched c.args.files.now c.args.name.now c.loop-i.i c.index-files-i.result c.loop-i-test.true
    c.index-files-i.is (rw c.as_str.ensures.value at (sym c.if-eq.ensures)) c.loop-i.invariant.content
    c.loop-i.invariant.place in
    record { content = step.0; place = step.1 }

pub returns-then-eq-clause-within : goal.returns-then-eq-clause-within
returns-then-eq-clause-within c = c.loop-i-test.true
