use Rattle.live_auditor.proofs.Imports.{All-contains, arith, IsOfMachine, refl}
use Rattle.live_auditor.proofs.OneEntry.{same_text}
use Rattle.live_auditor.proofs.live.Live.add.Goals as goal

pub add_new-requires-clause-room : goal.add_new-requires-clause-room
add_new-requires-clause-room c =
    rw (← c.self.view_is)
    (rw c.as_slice.ensures.value at c.in-New-2.ensures, omega (arith, c.self.invariant.0.live.few))

pub returns-in-Known-clause-answer : goal.returns-in-Known-clause-answer
returns-in-Known-clause-answer c =
    let machines = c.self.inside.roster.machines in
    let has = c.in-Known.ensures in
    let there = rw c.as_slice.ensures.value at has.there in
    let of_these = All-contains (IsOfMachine machines) c.self.inside.added.items has.other
    c.self.invariant.0.live.of_machines there in
    let same = same_text machines has.other c.args.s has.kept has.itself of_these
    (rw (← c.self.view_is) at c.requires) has.same in
    rw (← c.self.view_is, ← same) there

pub returns-in-New-clause-answer : goal.returns-in-New-clause-answer
returns-in-New-clause-answer c =
    rw (← c.self.view_is) (refl, rw c.as_slice.ensures.value at c.in-New.ensures, omega arith)

pub returns-in-Collides-clause-answer : goal.returns-in-Collides-clause-answer
returns-in-Collides-clause-answer c =
    rw (← c.self.view_is) (refl, rw c.as_slice.ensures.value at c.in-Collides.ensures)
