use Rattle.hall_outside.proofs.memory_store.read_from.Goals as goal
use Rattle.hall_outside.proofs.{FileLists.content_is, FileLists.taken_none, FileLists.taken_some, Imports.ap}
use Rattle.hall_outside.proofs.Imports.{arith, content_of, drop, length, length-drop, stored, take, take_rest, ◌∙◌, ◌≡◌}

pub returns-then-at-bytes : goal.returns-then-at-bytes
returns-then-at-bytes c =
    let file = c.index-files-place.result in
    let content = content_is c.args.files.now c.args.name.now c.in-Some.place file c.in-Some.ensures.found
    c.index-files-place.is in
    let same : c.as_slice-bytes.result.now ≡ file.bytes.items =
    rw c.index-files-place.is c.as_slice-bytes.ensures.value in
    record {
      taken = taken_none (content_of (stored c.args.files.now)) c.args.name.now file.bytes.items c.args.into.now
          c.args.at content (omega (arith, ap length same));
      most = rw content (omega (arith, ap length same));
    }

pub returns : goal.returns
returns c =
    let file = c.index-files-place.result in
    let bytes = c.as_slice-bytes.result.now in
    let content = content_is c.args.files.now c.args.name.now c.in-Some.place file c.in-Some.ensures.found
    c.index-files-place.is in
    let same : bytes ≡ file.bytes.items = rw c.index-files-place.is c.as_slice-bytes.ensures.value in
    let rest = take_rest bytes c.args.at in
    let count = c.min-count.ensures in
    let long = length-drop c.args.at bytes in
    record {
      taken = taken_some (content_of (stored c.args.files.now)) c.args.name.now file.bytes.items c.args.into.now
          c.copy_from_slice.new.self c.args.at c.args.room c.min-count.result content (omega (arith, ap length same))
          (omega (arith, count, ap length rest, long, ap length same)) c.requires.some c.requires.fits
          (c.copy_from_slice.ensures.after ∙ ap (take c.min-count.result) (rest ∙ ap (drop c.args.at) same));
      most = rw content (omega (arith, count, ap length rest, long, ap length same));
    }
