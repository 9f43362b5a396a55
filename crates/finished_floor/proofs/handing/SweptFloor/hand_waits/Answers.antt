use Rattle.finished_floor.proofs.Imports.{waits_of, Waiting, List, [], arith, length, ℕ, All-head, All-tail, nat_tests}
use Rattle.finished_floor.proofs.Imports.{nil_from_length, ◌++◌, ◌<◌, ◌∷◌, ◌≡◌, ◌≢◌, ◌&&◌, ◌==◌}
use Rattle.finished_floor.proofs.handing.SweptFloor.hand_waits.Goals as goal
use Rattle.finished_floor.proofs.Handed.{handed_on, then_on}
use Rattle.finished_floor.proofs.Lists.{only_if}

-- the first that waits does so on its own way alone
takes : (w : Waiting) (ws : List Waiting) (c d : ℕ) →
    waits_of (w ∷ ws) c d ≡ only_if ((w.to == d) && (w.entry.entry.maker == c)) w.entry ++ waits_of ws c d
takes w ws c d = grind (arith, nat_tests)

-- it is handed to its machine
pub loop-waiting-preserved : goal.loop-waiting-preserved
loop-waiting-preserved c =
    let is = c.loop-waiting.invariant in
    let now = c.loop-waiting.self in
    let w = c.in-Some.waiting in
    let later = c.next.new.self.rest.items in
    let first = c.in-Some.ensures.steps.0 in
    let waits = rw first at is.waits in
    let count = length c.args.self.now.machines.items in
    let P : Waiting → Type 0 = λ x. (x.entry.entry.maker < count) × (x.to < count) × (x.entry.entry.maker ≢ x.to) in
    let (from, to, apart) = All-head P w later waits in
    record {
      waits = All-tail P w later waits;
      goes_on = then_on _ _ _ c.args.self.now now c.hand_to.new.self is.goes_on
          (rw first (handed_on (waits_of (w ∷ later)) (waits_of later) now c.hand_to.new.self w.to w.entry
          is.goes_on.numbered (rw is.goes_on.count from) (rw is.goes_on.count to) apart (takes w later)
          c.in_ok-hand_to.ensures));
    }

-- where none is left, nothing waits
pub returns : goal.returns
returns c =
    let rest = c.loop-waiting.waiting-iterator.rest in
    let none : rest.items ≡ [] = nil_from_length rest.items (let ok = rest.ok.0 in omega (arith, c.in-None.ensures.steps.0)) in
    rw none at c.loop-waiting.invariant.goes_on
