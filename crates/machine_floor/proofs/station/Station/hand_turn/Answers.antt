use Rattle.machine_floor.proofs.station.Station.hand_turn.Goals as goal
use Rattle.machine_floor.proofs.Hands.{copies_are, copies_same, lower, maker_is, number_is, room_for_losses}
use Rattle.machine_floor.proofs.Hands.{room_for_tick, turned}
use Rattle.machine_floor.proofs.Imports.{[], ap, arith, HandDid, History, IsSentBelow, IsStation, length, List, Lose}
use Rattle.machine_floor.proofs.Imports.{MachineState, SealedEntry, state_of, StationState, subst, sym, ◌++◌, ◌∙◌, ◌∷◌}
use Rattle.machine_floor.proofs.{Imports.◌≡◌, Linked.capacity_is, Linked.row_of, station.Station.hand_turn.Given.Over}
use Rattle.machine_floor.proofs.station.Station.hand_turn.Goals.{After-owner-own, After-send_all}

pub push_reserved-requires : goal.push_reserved-requires
push_reserved-requires g c =
    let done = rw c.in-Did.is at c.in_ok-number.ensures.ok in
    let room = room_for_tick {old = state_of c.self.inside} c.self.invariant.0 done in
    let ok = c.self.inside.ticks.ok.0 in omega (arith, c.self.invariant.2)

-- the owner of the log is the machine's number
owner_is : (g : Over) (c : After-owner-own g) → c.owner-own.result ≡ c.self.inside.machine.config.number
owner_is g c =
    let done = rw c.in-Did.is at c.in_ok-number.ensures.ok in
    c.owner-own.ensures ∙ ap (λ (l : History SealedEntry). l.owner) c.log.ensures.log
    ∙ ap (λ (m : MachineState). m.config.number) done.changed

pub send_all-requires-clause-row : goal.send_all-requires-clause-row
send_all-requires-clause-row g c =
    rw (owner_is g (goal.at.send_all-requires-clause-row g c).After-owner-own)
    (row_of c.args.links.now (state_of c.self.inside) (rw (← c.self.view_is) at c.requires) c.self.invariant.0.place)

pub send_all-requires-clause-greater : goal.send_all-requires-clause-greater
send_all-requires-clause-greater g c = λ to d lt differs.
    let done = rw c.in-Did.is at c.in_ok-number.ensures.ok in
    let own = owner_is g (goal.at.send_all-requires-clause-greater g c).After-owner-own in
    let ok = c.self.inside.outs.ok.0 in
    lower (state_of c.self.inside) c.in-Did.number c.self.invariant.0 done.counted to d (omega arith)
    (λ s. differs (s ∙ sym own))

pub send_all-requires-clause-copies : goal.send_all-requires-clause-copies
send_all-requires-clause-copies g c =
    let done = rw c.in-Did.is at c.in_ok-number.ensures.ok in
    rw (owner_is g (goal.at.send_all-requires-clause-copies g c).After-owner-own)
    (copies_are {old = state_of c.self.inside} c.self.invariant.0 done)

pub send_all-requires-clause-room : goal.send_all-requires-clause-room
send_all-requires-clause-room g c =
    let done = rw c.in-Did.is at c.in_ok-number.ensures.ok in
    let room = room_for_losses {old = state_of c.self.inside} c.self.invariant.0 done in
    let a = c.self.inside.outs.ok.0 in let b = c.self.inside.losses.ok.0 in omega (arith, c.self.invariant.1)

-- the entry was sent to the other machines
turn : (g : Over) (c : After-send_all g) →
    let old = state_of c.self.inside in let now : StationState = record old {
      machine = c.act.new.self;
      outs = c.send_all.new.outs.items;
      losses = c.send_all.new.losses.items;
      ticks = c.push_reserved.new.self.items;
    } in
    c.owner-own.result ≡ old.machine.config.number → IsStation now × HandDid old now
turn g c own =
    let done = rw c.in-Did.is at c.in_ok-number.ensures.ok in
    let old = state_of c.self.inside in
    let is = c.self.invariant.0 in
    let of = rw (← c.self.view_is) at c.requires in
    let ok = c.self.inside.outs.ok.0 in
    let (lost, added, below) = c.send_all.ensures.sent done.entry old.link (maker_is {old = old} is done ∙ sym own)
    (number_is {old = old} is done ∙ sym done.counted) (copies_same {old = old} is done)
    (rw own (λ to l lt. capacity_is c.args.links.now old of to l (omega arith))) in
    turned is done c.send_all.new.outs.items c.send_all.new.losses.items c.push_reserved.new.self.items lost
    c.log.ensures.machine
    (c.push_reserved.ensures.items
    ∙ ap (λ n. c.self.inside.ticks.items ++ record { pass = 0; what = n } ∷ []) (let k =
    c.self.inside.ticks.ok.0 in omega arith))
    added (subst (λ (l : List Lose). IsSentBelow l old.link (length c.self.inside.outs.items) done.entry
    c.self.inside.outs.items c.send_all.new.outs.items lost) c.as_slice.ensures.value (subst
    (λ n. IsSentBelow c.as_slice.result.now old.link n done.entry c.self.inside.outs.items
    c.send_all.new.outs.items lost) ok below))

pub invariant_of-self-in-Did : goal.invariant_of-self-in-Did
invariant_of-self-in-Did g c =
    let (_, losses_fit, ticks_fit) = c.self.invariant in
    let done = rw c.in-Did.is at c.in_ok-number.ensures.ok in
    let k = goal.at.invariant_of-self-in-Did g c in
    let log = ap (λ (m : MachineState). m.config.log) done.changed in (
      (turn g k.After-send_all (owner_is g k.After-owner-own)).0,
      omega (arith, c.send_all.ensures.capacity, losses_fit),
      omega (arith, c.push_reserved.ensures.capacity, ticks_fit, log),
    )

pub returns-in-Did-clause-did : goal.returns-in-Did-clause-did
returns-in-Did-clause-did g c = λ yes.
    let k = goal.at.returns-in-Did-clause-did g c in
    rw (← c.self.view_is) (turn g k.After-send_all (owner_is g k.After-owner-own)).1
