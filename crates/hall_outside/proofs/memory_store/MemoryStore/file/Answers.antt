use Rattle.hall_outside.proofs.Imports.{ap, content_of, Some, sym, ◌∙◌}
use Rattle.hall_outside.proofs.FileLists.{content_is}
use Rattle.hall_outside.proofs.memory_store.MemoryStore.file.Goals as goal

pub returns : goal.returns
returns c = ap Some c.as_slice-2.ensures.value
    ∙ sym (content_is c.self.inside.files.items c.args.name.now c.in_ok-place.place c.index.result.now
    (rw c.as_slice.ensures.value at c.in_ok-place.ensures.found) c.index.ensures)
    ∙ ap (λ d. content_of d.files c.args.name.now) c.self.view_is
