use Rattle.finished_floor.proofs.Imports.{length, AreOnWay, SweepsOn, waits_of}
use Rattle.finished_floor.proofs.handing.SweptFloor.hand_waits.Given as goal

-- the rest waits, and the sweep goes on
abbrev pub invariant-loop-waiting : goal.invariant-loop-waiting
invariant-loop-waiting l = record {
  waits : AreOnWay (length l.initial.self.machines.items) l.waiting-iterator.rest.items;
  goes_on : SweepsOn (waits_of l.fn.waits.items) l.initial.self (waits_of l.waiting-iterator.rest.items) l.self;
}
