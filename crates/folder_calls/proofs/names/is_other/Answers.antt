use Rattle.folder_calls.proofs.names.is_other.Goals as goal
use Rattle.std.proofs.{Common.arith, Common.length, Common.min, Common.take, Common.◌≡◌, lemmas.List.take_all}

pub returns : goal.returns
returns c =
    let part = c.after_last-part.result.now in
    let front : take (min (length part) 12) part ≡ take 12 part = grind (arith, take_all) in
    rw (c.min.ensures, c.as_slice.ensures, front, c.after_last-part.ensures, c.as_bytes.ensures.value) at c.eq.ensures
