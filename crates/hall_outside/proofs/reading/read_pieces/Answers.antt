use Rattle.hall_outside.proofs.Imports.{ap, arith, Bytes, ends, Err, goes_on, inl, inr, length, length-append}
use Rattle.hall_outside.proofs.Imports.{length-take-le, Ok, refl, take, take_at, ◌++◌, ◌+◌, ◌<◌, ◌∙◌, ◌≡◌}
use Rattle.hall_outside.proofs.Fronts.{any_file, from_both, front_more, long_front, whole_front}
use Rattle.hall_outside.proofs.Offers.{unrisen}
use Rattle.hall_outside.specs.declared.stores.Taken.TheVariants.{Absent}
use Rattle.hall_outside.specs.declared.reading.FileFault.TheVariants as fault
use Rattle.hall_outside.proofs.reading.read_pieces.Goals as goal

pub returns-in-Ok-Bytes-eq0-clause-ok : goal.returns-in-Ok-Bytes-eq0-clause-ok
returns-in-Ok-Bytes-eq0-clause-ok g c =
    let arm = c.in-Ok-Bytes-eq0 in
    let before = c.loop-piece.invariant in
    let size : length c.as_mut_slice.result.now ≡ 65536 = omega (arith, ap length c.as_mut_slice.ensures.value) in
    let taken = rw (arm.field-0-is, arm.field-0-0-test, before.files, before.long) at arm.ensures.taken in
    let step = rw (before.long, size, arm.field-0-is, arm.field-0-0-test) at arm.ensures.step in (
      before.bytes,
      omega (arith, before.long, before.fits),
      record {
        pieces = before.pieces (Ok before.bytes) _ (ends _ _ _ (Ok (Bytes 0)) _ _ step (inl (refl, refl)));
        exposed = from_both (g.S.Store.files c.args.store.now) c.args.name.now (whole_front before.bytes) before.front
            taken.2;
        unchanged = arm.ensures.files ∙ before.files;
      },
      before.takes,
    )

pub loop-piece-preserved : goal.loop-piece-preserved
loop-piece-preserved g c =
    let arm = c.in-Ok-Bytes in
    let before = c.loop-piece.invariant in
    let filled = c.read_at.new.into in
    let part = take arm.count filled in
    let size : length c.as_mut_slice.result.now ≡ 65536 = omega (arith, ap length c.as_mut_slice.ensures.value) in
    let whole : length filled ≡ c.loop-piece.piece.len = omega (arith, ap length c.as_mut_slice.ensures.value) in
    let given : take arm.count c.deref.result.now ≡ part =
    rw c.deref.ensures.value (ap (take arm.count) (take_at filled _ c.loop-piece.piece.len whole)) in
    let taken = rw (arm.field-0-is, before.files, before.long) at arm.ensures.taken in
    let step = rw (before.long, size, arm.field-0-is) at arm.ensures.step in
    let answered = rw arm.field-0-is at arm.ensures.answered in
    let long : length part ≡ arm.count =
    length-take-le arm.count filled (omega (arith, c.read_at.auto.into, taken.0)) in
    record {
      bytes = before.bytes ++ part;
      long = omega (arith, before.long, length-append before.bytes part, long);
      takes = rw given at (c.in_ok-take_piece-in-Ok-Bytes.ensures c.args.into.now before.bytes before.takes);
      most = before.most;
      front = from_both (g.S.Store.files c.args.store.now) c.args.name.now (front_more before.bytes part) before.front
          taken.2;
      fits = omega (arith, c.if-count-limit.false, before.fits);
      piece = before.piece;
      files = arm.ensures.files ∙ before.files;
      absences = rw answered before.absences;
      given = rw (answered, before.given) (omega arith);
      read_faults = unrisen _ _ arm.ensures.cause ∙ before.read_faults;
      write_faults = arm.ensures.write_faults ∙ before.write_faults;
      pieces = λ found end more. before.pieces found end (goes_on _ part _ _ _ _ (rw long step) more);
    }

pub returns-in-Ok-Absent-clause-err : goal.returns-in-Ok-Absent-clause-err
returns-in-Ok-Absent-clause-err g c not_memory =
    let arm = c.in-Ok-Absent in
    let before = c.loop-piece.invariant in
    let size : length c.as_mut_slice.result.now ≡ 65536 = omega (arith, ap length c.as_mut_slice.ensures.value) in
    let step = rw (before.long, size, arm.field-0-is) at arm.ensures.step in
    let taken = rw (arm.field-0-is, before.files) at arm.ensures.taken in
    record {
      pieces = before.pieces (Err fault.Absent) _ (ends _ _ _ (Ok Absent) _ _ step refl);
      exposed = taken.1;
      unchanged = arm.ensures.files ∙ before.files;
    }

pub returns-then-count-limit-clause-err : goal.returns-then-count-limit-clause-err
returns-then-count-limit-clause-err g c not_memory =
    let arm = c.in-Ok-Bytes in
    let before = c.loop-piece.invariant in
    let filled = c.read_at.new.into in
    let size : length c.as_mut_slice.result.now ≡ 65536 = omega (arith, ap length c.as_mut_slice.ensures.value) in
    let over : c.args.limit < length before.bytes + arm.count =
    omega (arith, c.if-count-limit.true, before.fits, before.long) in
    let taken = rw (arm.field-0-is, before.files, before.long) at arm.ensures.taken in
    let step = rw (before.long, size, arm.field-0-is) at arm.ensures.step in
    let long : length (take arm.count filled) ≡ arm.count =
    length-take-le arm.count filled (omega (arith, c.read_at.auto.into, taken.0)) in
    record {
      pieces = before.pieces (Err fault.TooLong) _ (ends _ _ _ (Ok (Bytes arm.count)) _ _ step (inr (over, refl)));
      exposed = from_both (g.S.Store.files c.args.store.now) c.args.name.now
          (long_front before.bytes (take arm.count filled) c.args.limit (omega (arith, over, long))) before.front
          taken.2;
      unchanged = arm.ensures.files ∙ before.files;
    }

pub returns-in-Err-clause-err : goal.returns-in-Err-clause-err
returns-in-Err-clause-err g c not_memory =
    let before = c.loop-piece.invariant in
    let size : length c.as_mut_slice.result.now ≡ 65536 = omega (arith, ap length c.as_mut_slice.ensures.value) in
    let step = rw (before.long, size) at c.in-Err.ensures.step in
    record {
      pieces = before.pieces (Err fault.ReadFault) _ (ends _ _ _ (Err c.in-Err.field-0) _ _ step refl);
      exposed = any_file (g.S.Store.files c.args.store.now) c.args.name.now (λ file. tt);
      unchanged = c.in-Err.ensures.files ∙ before.files;
    }
