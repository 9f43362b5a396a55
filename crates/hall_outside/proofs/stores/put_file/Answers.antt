use Rattle.hall_outside.proofs.Imports.{ap, arith, drop-drop, drop_all, err_from_is_err_and, fails, length, length-drop}
use Rattle.hall_outside.proofs.Imports.{none_left, not_created, take_rest, takes, ◌∙◌}
use Rattle.hall_outside.proofs.{Offers.unrisen, Sets.put_more}
use Rattle.hall_outside.specs.Writing.{created}
use Rattle.hall_outside.proofs.stores.put_file.Goals as goal

pub returns-in_err-create-clause-offers : goal.returns-in_err-create-clause-offers
returns-in_err-create-clause-offers g c =
    let failed = err_from_is_err_and c.from_residual.result c.from_residual.ensures.1 in
    rw failed.1 (not_created _ _ _ c.in_err-create.ensures.step)

pub loop-done-init : goal.loop-done-init
loop-done-init g c =
    let create = c.in_ok-create.ensures in
    record {
      within = omega arith;
      files = create.ok;
      write_faults = unrisen _ _ create.cause;
      offers = λ ok end h. created _ _ _ _ ok create.step h;
      answered = create.answered;
      read_faults = create.read_faults;
    }

pub returns-in_err-done-clause-offers : goal.returns-in_err-done-clause-offers
returns-in_err-done-clause-offers g c =
    let result = c.from_residual-in_err-done in
    let failed = err_from_is_err_and result.result result.ensures.1 in rw failed.1
    (c.loop-done.invariant.offers _ _
    (fails _ _ _ _ (rw (take_rest c.args.bytes.now c.loop-done.done) at c.in_err-done.ensures.step)))

pub loop-done-preserved : goal.loop-done-preserved
loop-done-preserved g c =
    let bytes = c.args.bytes.now in
    let at = c.loop-done.done in
    let n = c.in_ok-done.field-0 in
    let left = take_rest bytes at in
    let before = c.loop-done.invariant in
    let append = c.in_ok-done.ensures in
    record {
      within = omega (arith, append.took.at_most, ap length left, length-drop at bytes);
      files = put_more _ _ _ c.args.name.now bytes _ at n left before.files append.ok;
      write_faults = unrisen _ _ append.cause ∙ before.write_faults;
      offers = λ ok end h. before.offers ok end
          (takes _ _ _ _ n ok (rw left at append.step) (rw (drop-drop n at bytes) h));
      answered = append.answered ∙ before.answered;
      read_faults = append.read_faults ∙ before.read_faults;
    }

pub returns-clause-offers : goal.returns-clause-offers
returns-clause-offers g c = c.loop-done.invariant.offers _ _
    (rw (drop_all c.loop-done.done c.args.bytes.now c.loop-done-test.false) (none_left _))
