use Rattle.hall_outside.proofs.Imports.{ap, arith, drop-drop, drop_all, err_from_is_err_and, fails, length, length-drop}
use Rattle.hall_outside.proofs.Imports.{none_left, take_rest, takes, ◌∙◌}
use Rattle.hall_outside.proofs.{Offers.unrisen, Sets.appended_more}
use Rattle.hall_outside.proofs.sinks.write_all.Goals as goal

pub returns-in_err-done-clause-offers : goal.returns-in_err-done-clause-offers
returns-in_err-done-clause-offers g c =
    let failed = err_from_is_err_and c.from_residual.result c.from_residual.ensures.1 in rw failed.1
    (c.loop-done.invariant.offers _ _
    (fails _ _ _ _ (rw (take_rest c.args.bytes.now c.loop-done.done) at c.in_err-done.ensures.step)))

pub loop-done-preserved : goal.loop-done-preserved
loop-done-preserved g c =
    let bytes = c.args.bytes.now in
    let at = c.loop-done.done in
    let n = c.in_ok-done.field-0 in
    let left = take_rest bytes at in
    record {
      within = omega (arith, c.in_ok-done.ensures.took.at_most, ap length left, length-drop at bytes);
      written = appended_more _ _ _ bytes _ at n left c.loop-done.invariant.written c.in_ok-done.ensures.ok;
      faults = unrisen _ _ c.in_ok-done.ensures.cause ∙ c.loop-done.invariant.faults;
      offers = λ ok end h. c.loop-done.invariant.offers ok end
          (takes _ _ _ _ n ok (rw left at c.in_ok-done.ensures.step) (rw (drop-drop n at bytes) h));
    }

pub returns-clause-offers : goal.returns-clause-offers
returns-clause-offers g c = c.loop-done.invariant.offers _ _
    (rw (drop_all c.loop-done.done c.args.bytes.now c.loop-done-test.false) (none_left _))
