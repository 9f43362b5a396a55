use Rattle.machine_floor.proofs.station.Station.ear_one.Goals as goal
use Rattle.machine_floor.proofs.Ears.{Adds, found_none, Looked, looked, maker_is, room_for_heard, room_for_loss}
use Rattle.machine_floor.proofs.Ears.{same_config, took_one}
use Rattle.machine_floor.proofs.Imports.{[], ap, arith, cause_of, Config, EarFoundNone, EarTook, get_or_default}
use Rattle.machine_floor.proofs.Imports.{History, IsHeard, IsStation, List, Loss, LossWhy, machine_after, MachineState}
use Rattle.machine_floor.proofs.Imports.{refl, SealedEntry, slice_set, Some, state_of, subst, sym, Tick, ◌++◌, ◌∙◌, ◌∷◌}
use Rattle.machine_floor.proofs.{Imports.◌≡◌, Ticks.ticks_as_many, station.Station.ear_one.Given.Over}
use Rattle.machine_floor.proofs.station.Station.ear_one.Goals.{After-owner-own, In_default}

-- the link was found empty
bare : (g : Over) (c : In_default g) →
    let old = state_of c.self.inside in let now = record old { inns = slice_set old.inns c.args.from c.take.new.inn } in
    IsStation now × EarFoundNone c.args.from old now
bare g c =
    let within = rw (← c.self.view_is) at c.requires.from in
    found_none (state_of c.self.inside) c.args.from c.args.link.now c.take.new.inn c.self.invariant.0 within
    (rw (← c.self.view_is) at c.requires.other) c.take.ensures.end (rw (← c.self.view_is) at c.requires.end)
    (λ d. rw (c.index_mut.ensures.value ∙ get_or_default _ c.args.from c.index_mut.result.now d within) at
    c.in_default.ensures.none)

pub invariant_of-self : goal.invariant_of-self
invariant_of-self g c =
    let (_, losses_fit, ticks_fit) = c.self.invariant in
    ((bare g (goal.at.invariant_of-self g c).In_default).0, losses_fit, ticks_fit)

pub returns-in_default : goal.returns-in_default
returns-in_default g c = rw (← c.self.view_is) (bare g (goal.at.returns-in_default g c).In_default).1

-- what is known once an entry was taken
known : (g : Over) (c : After-owner-own g) →
    Looked (state_of c.self.inside) c.args.from c.take.new.inn c.in-Some.parcel
known g c =
    let within = rw (← c.self.view_is) at c.requires.from in
    let ends = rw (← c.self.view_is) at c.requires.end in
    record {
      is = c.self.invariant.0;
      within = within;
      other = rw (← c.self.view_is) at c.requires.other;
      took = λ d. rw (c.index_mut.ensures.value ∙ get_or_default _ c.args.from c.index_mut.result.now d within) at
          c.in-Some.ensures.some;
      small = c.«open».ensures.small;
      of = λ d. (ends d).1 ∙ c.requires.sender;
      same = λ d. (c.take.ensures.end.0 ∙ sym (ends d).0, c.take.ensures.end.1 ∙ sym (ends d).1);
    }

-- the machine's answer
answers : (g : Over) (c : After-owner-own g) →
    IsHeard c.self.inside.machine c.in-Some.parcel c.hear-answer.result
answers g c = rw c.«open».ensures.value at c.hear-answer.ensures.answer

-- and what became of the machine
after : (g : Over) (c : After-owner-own g) →
    c.hear-answer.new.self ≡ machine_after c.hear-answer.result c.in-Some.parcel c.self.inside.machine
after g c = rw c.«open».ensures.value at c.hear-answer.ensures.machine

-- its configuration stays
config : (g : Over) (c : After-owner-own g) → c.hear-answer.new.self.config ≡ c.self.inside.machine.config
config g c = ap (λ (m : MachineState). m.config) (same_config _ _ _ _ (after g c))

-- the entry was heard or lost
took : (g : Over) (c : After-owner-own g) (losses : List Loss) (ticks : List Tick) →
    Adds (known g c) (cause_of c.hear-answer.result) losses ticks →
    let now = looked (known g c) c.hear-answer.new.self losses ticks in
    IsStation now × EarTook c.args.from (state_of c.self.inside) now
took g c losses ticks adds =
    took_one (known g c) c.hear-answer.result c.hear-answer.new.self losses ticks (answers g c) (after g c)
    c.log.ensures.machine adds

pub push_reserved-requires : goal.push_reserved-requires
push_reserved-requires g c =
    let k = (goal.at.push_reserved-requires g c).After-owner-own in
    let room = room_for_heard (known g k) c.hear-answer.result (answers g k) c.in-None.ensures in
    let ok = c.self.inside.ticks.ok.0 in omega (arith, c.self.invariant.2)

pub push_reserved-requires-in-Some-cause_of : goal.push_reserved-requires-in-Some-cause_of
push_reserved-requires-in-Some-cause_of g c =
    let room = room_for_loss (known g (goal.at.push_reserved-requires-in-Some-cause_of g c).After-owner-own) in
    let ok = c.self.inside.losses.ok.0 in omega (arith, c.self.invariant.1)

pub invariant_of-self-in-None : goal.invariant_of-self-in-None
invariant_of-self-in-None g c =
    let (is, losses_fit, ticks_fit) = c.self.invariant in
    let k = (goal.at.invariant_of-self-in-None g c).After-owner-own in
    let ticked = c.push_reserved.ensures.items
    ∙ ap (λ n. c.self.inside.ticks.items ++ record { pass = 1; what = n } ∷ [])
    (let t = c.self.inside.ticks.ok.0 in omega (arith, ticks_as_many (state_of c.self.inside) is)) in (
      (took g k c.self.inside.losses.items c.push_reserved.new.self.items (subst (λ o. Adds (known g k) o
          c.self.inside.losses.items c.push_reserved.new.self.items) c.in-None.ensures (refl, ticked))).0,
      losses_fit,
      omega (arith, c.push_reserved.ensures.capacity, ticks_fit, ap (λ (x : Config). x.log) (config g k)),
    )

pub returns-in-None : goal.returns-in-None
returns-in-None g c =
    let k = (goal.at.returns-in-None g c).After-owner-own in
    let ticked = c.push_reserved.ensures.items
    ∙ ap (λ n. c.self.inside.ticks.items ++ record { pass = 1; what = n } ∷ [])
    (let t = c.self.inside.ticks.ok.0 in omega (arith, ticks_as_many (state_of c.self.inside) c.self.invariant.0)) in
    rw (← c.self.view_is) (took g k c.self.inside.losses.items c.push_reserved.new.self.items (subst (λ o.
    Adds (known g k) o c.self.inside.losses.items c.push_reserved.new.self.items) c.in-None.ensures (refl, ticked))).1

-- the loss that was added is the entry's
lost : (g : Over) (c : After-owner-own g) (why : LossWhy) (after : List Loss) →
    after ≡ c.self.inside.losses.items
    ++ record { from = c.from-maker.result; number = c.number-number.result; to = c.owner-own.result; why = why } ∷ [] →
    Some why ≡ cause_of c.hear-answer.result →
    Adds (known g c) (cause_of c.hear-answer.result) after c.self.inside.ticks.items
lost g c why after is some =
    let maker = c.from-maker.ensures ∙ maker_is (known g c) in
    let own = c.owner-own.ensures ∙ ap (λ (h : History SealedEntry). h.owner) c.log.ensures.log
    ∙ ap (λ (k : Config). k.number) (config g c) in
    subst (λ o. Adds (known g c) o after c.self.inside.ticks.items) some
    (refl, rw (maker, c.number-number.ensures, own) at is)

pub invariant_of-self-in-Some-cause_of : goal.invariant_of-self-in-Some-cause_of
invariant_of-self-in-Some-cause_of g c =
    let (_, losses_fit, ticks_fit) = c.self.invariant in
    let k = (goal.at.invariant_of-self-in-Some-cause_of g c).After-owner-own in (
      (took g k _ _ (lost g k c.in-Some-cause_of.why c.push_reserved-in-Some-cause_of.new.self.items
          c.push_reserved-in-Some-cause_of.ensures.items c.in-Some-cause_of.ensures)).0,
      omega (arith, c.push_reserved-in-Some-cause_of.ensures.capacity, losses_fit),
      omega (arith, ticks_fit, ap (λ (x : Config). x.log) (config g k)),
    )

pub returns-in-Some-cause_of : goal.returns-in-Some-cause_of
returns-in-Some-cause_of g c =
    let k = (goal.at.returns-in-Some-cause_of g c).After-owner-own in
    rw (← c.self.view_is) (took g k _ _ (lost g k c.in-Some-cause_of.why c.push_reserved-in-Some-cause_of.new.self.items
    c.push_reserved-in-Some-cause_of.ensures.items c.in-Some-cause_of.ensures)).1
