use Rattle.canonical_sexp.proofs.Imports.{◌<◌, arith, nat_tests, sym, get_or-drop, length-drop, take-add}
use Rattle.canonical_sexp.proofs.Imports.{take-append-drop, take_all, take_rest, in_lists}
use Rattle.canonical_sexp.proofs.Opened.{innermost_few}
use Rattle.canonical_sexp.proofs.Places.{is_bad_token, is_bad_length, atom_is_cut, place_is_cut}
use Rattle.canonical_sexp.proofs.Scans.{scan_begun, scan_open, scan_close, scan_atom_step, scan_whole, atom_some}
use Rattle.canonical_sexp.proofs.scanning.scan_list.Goals as goal

pub loop-at-init : goal.loop-at-init
loop-at-init c = scan_begun c.args.bytes.now c.requires.some c.requires.open

pub returns-in-Some : goal.returns-in-Some
returns-in-Some c =
    let h = c.loop-at.invariant in
    is_bad_token (in_lists h.outer h.current) _ _ _ h.nested c.loop-at-test.true h.so_far
    (rw (← h.depth_is, ← h.members_is) (sym c.in-Some.ensures))

pub loop-at-preserved-in-40 : goal.loop-at-preserved-in-40
loop-at-preserved-in-40 c = scan_open _ _ _ _ _ c.loop-at.invariant c.loop-at-test.true c.in-40.is
    (rw c.in-40.is at (sym c.in_default.ensures))

pub returns-then-outer-eq0 : goal.returns-then-outer-eq0
returns-then-outer-eq0 c =
    let h = c.loop-at.invariant in
    scan_whole _ _ h.outer h.current c.loop-at-test.true h.so_far h.nested c.in-41.is (omega arith)

pub overflow_add-members : goal.overflow_add-members
overflow_add-members c =
    let h = scan_close _ _ _ _ _ c.loop-at.invariant c.loop-at-test.true c.in-41.is (grind (arith, nat_tests)) in
    omega (arith, h.members_is, innermost_few 8 h.outer h.current h.nested)

pub loop-at-preserved-in-41 : goal.loop-at-preserved-in-41
loop-at-preserved-in-41 c =
    scan_close _ _ _ _ _ c.loop-at.invariant c.loop-at-test.true c.in-41.is (grind (arith, nat_tests))

pub loop-at-smaller : goal.loop-at-smaller
loop-at-smaller c =
    let atom = rw take_rest at c.in-Whole.ensures in
    let some = atom_some atom.octets _ _ atom.spelt in omega arith

pub loop-at-preserved : goal.loop-at-preserved
loop-at-preserved c = scan_atom_step _ _ _ _ _ _ c.loop-at.invariant (grind (arith, nat_tests))
    (rw take_rest at c.in-Whole.ensures)

pub returns-in-Cut : goal.returns-in-Cut
returns-in-Cut c =
    let h = c.loop-at.invariant in
    let room : c.loop-at.members < 16384 = grind (arith, nat_tests) in
    rw (← take-append-drop c.loop-at.at c.args.bytes.now, h.so_far) (atom_is_cut (in_lists h.outer h.current) _ h.nested
    (omega arith) (rw take_rest at c.in-Cut.ensures))

pub returns-in-Bad : goal.returns-in-Bad
returns-in-Bad c =
    let h = c.loop-at.invariant in
    let bad = rw take_rest at c.in-Bad.ensures in
    let room : c.loop-at.members < 16384 = grind (arith, nat_tests) in
    is_bad_length (in_lists h.outer h.current) _ _ bad.value _ h.nested (omega arith)
    (omega (arith, bad.inside, length-drop c.loop-at.at c.args.bytes.now)) bad.few
    (rw (take-add c.loop-at.at c.in-Bad.place c.args.bytes.now, h.so_far, bad.digits))
    (rw (← get_or-drop c.loop-at.at c.args.bytes.now c.in-Bad.place 0) bad.fault)

pub returns : goal.returns
returns c =
    let h = c.loop-at.invariant in
    rw (← take_all c.loop-at.at c.args.bytes.now c.loop-at-test.false, h.so_far)
    (place_is_cut (in_lists h.outer h.current) h.nested)
