use Rattle.finished_floor.proofs.Imports.{arith, sym, ◌∙◌}
use Rattle.finished_floor.proofs.handing.SweptFloor.hand_out.Goals as goal
use Rattle.finished_floor.proofs.handing.SweptFloor.hand_out.Goals.{then-to-from+in-Some+in_ok-hand_to, else-to-from}
use Rattle.finished_floor.proofs.Outs.{handing_none, handing_past, some_left, copy_maker, handing_more, handing_done}

pub loop-to-init : goal.loop-to-init
loop-to-init c =
    let ok = c.args.self.now.machines.ok.0 in
    handing_none c.args.from c.len-count.result c.args.copies.items c.args.self.now (omega arith)
    (let f = c.requires.from in omega arith) c.requires.numbered c.requires.makers c.requires.many

pub unreachable-requires : goal.unreachable-requires
unreachable-requires c =
    let some = some_left c.args.from c.len-count.result c.args.copies.items c.args.self.now c.loop-to.to
    c.loop-to.copies.items c.loop-to.self c.loop-to.invariant c.loop-to-test.true c.if-to-from.true in
    let ok = c.loop-to.copies.ok.0 in omega (arith, c.in_default.ensures.cases)

-- the copy was made by another machine
pub hand_to-requires-clause-other : goal.hand_to-requires-clause-other
hand_to-requires-clause-other c = λ same.
    let maker = copy_maker c.args.from c.len-count.result c.args.copies.items c.args.self.now c.loop-to.to
    c.loop-to.copies.items c.loop-to.self c.loop-to.invariant c.loop-to-test.true c.pop.new.self.items
    c.in-Some.copy c.in-Some.ensures.items in
    c.if-to-from.true (sym same ∙ maker)

pub loop-to-preserved : goal.loop-to-preserved
loop-to-preserved c =
    let is = c.loop-to.invariant in
    elim c.if-to-from.branch [
      | then-to-from+in-Some+in_ok-hand_to w ↦
          rw (w.copies-is, w.self-is) (handing_more c.args.from c.len-count.result c.args.copies.items c.args.self.now
          c.loop-to.to c.loop-to.copies.items c.loop-to.self is c.loop-to-test.true w.pop.new.self.items w.in-Some.copy
          w.in-Some.ensures.items w.hand_to.new.self w.if-to-from.true w.in_ok-hand_to.ensures)
      | else-to-from w ↦
          rw (w.copies-is, w.self-is) (handing_past c.args.from c.len-count.result c.args.copies.items c.args.self.now
          c.loop-to.to c.loop-to.copies.items c.loop-to.self is c.loop-to-test.true w.if-to-from.false)
    ]

pub returns-clause-goes_on : goal.returns-clause-goes_on
returns-clause-goes_on c = λ e maker all.
    handing_done c.args.from c.len-count.result c.args.copies.items c.args.self.now c.loop-to.to
    c.loop-to.copies.items c.loop-to.self (omega (arith, c.loop-to-test.false)) c.loop-to.invariant e maker all
