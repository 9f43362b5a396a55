-- A station after its ear has looked at a link.
use Rattle.polling_world.specs.declared.heard.MachineHeard.TheVariants as heard
use Rattle.machine_floor.proofs.Causes.{in_stays}
use Rattle.machine_floor.proofs.Imports.{[], All, All-append, All-cons, All-contains, All-nil, All-push, all_pairs_push}
use Rattle.machine_floor.proofs.Imports.{ap, append-nil, AreOnce, arith, arriving, cases_eq, cause_of, Contains}
use Rattle.machine_floor.proofs.Imports.{Contains-append_left, Contains-push, Contains-push_cases, Differ, differ_sym}
use Rattle.machine_floor.proofs.Imports.{EarFoundNone, EarTook, Event, false, FoundLinkEmpty, get_or, get_or-set_other}
use Rattle.machine_floor.proofs.Imports.{get_or-set_same, get_or_append_left, going_on, Got, got_from, got_from-here}
use Rattle.machine_floor.proofs.Imports.{got_from-other, inl, inr, InView, is_of, IsFate, IsGoing, IsHeard, IsInCause}
use Rattle.machine_floor.proofs.Imports.{IsInOf, IsMachine, IsOfEar, IsOfHand, IsStation, IsTakenWell, itself, last_of}
use Rattle.machine_floor.proofs.Imports.{length, length-append, length-set, LinkView, List, LogFull, Loss, LossWhy}
use Rattle.machine_floor.proofs.Imports.{machine_after, MachineHeard, MachineState, max_actions, max_machines}
use Rattle.machine_floor.proofs.Imports.{node_of_sealed, None, Option, other_from, other_number, other_way, refl}
use Rattle.machine_floor.proofs.Imports.{SameDigest, Scripted, SealedEntry, sent, sent-got, sent_few, set, Some}
use Rattle.machine_floor.proofs.Imports.{StationState, stopped_there, sum_by, sum_by-le, sum_by-set, sym, takes_heard}
use Rattle.machine_floor.proofs.Imports.{takes_lost, Tick, ticks_from, TookItem, ToStopped, ℕ, ◌++◌, ◌+◌, ◌<◌, ◌∙◌, ◌∷◌}
use Rattle.machine_floor.proofs.Imports.{◌≡◌, ◌≢◌, ◌≤◌, ◌⊎◌}
use Rattle.machine_floor.proofs.{Made.inns_same, Ticks.ticks_as_many, Ticks.ticks_more}

-- an end that takes from a link
abbrev pub Inn : Type 0
Inn = InView SealedEntry

-- the end took the entry, which is its sender's and has a greater number than those before
abbrev pub Took : Inn → SealedEntry → Inn → Type 0
Took old x new = TookItem (λ (y : SealedEntry). y.entry.maker) (λ (y : SealedEntry). y.entry.number) old x new

-- few entries are taken from one link: their numbers are below 4,096, and no lower than their places
few_taken : (from : ℕ) (taken : List SealedEntry) → IsTakenWell from taken → length taken ≤ max_actions
few_taken from [] well = omega arith
few_taken from (y ∷ taken) well =
    let a = well.dense (length taken) y (omega arith) in
    let b = well.small (length taken) y (omega arith) in
    omega arith

-- so few are taken in all
pub all_taken : (inns : List Inn) → length inns ≤ max_machines →
    ((k : ℕ) (d : Inn) → k < length inns → IsTakenWell k (get_or inns k d).taken) →
    sum_by (λ (i : Inn). length i.taken) inns ≤ 65536
all_taken inns few well =
    let sum = sum_by-le (λ (i : Inn). length i.taken) max_actions inns
    (λ k d lt. few_taken k (get_or inns k d).taken (well k d lt)) in
    omega arith

-- where the j-th has a number of at least j, a number that is greater than all is at least their
-- count
above : (xs : List SealedEntry) (number : ℕ) →
    ((j : ℕ) (d : SealedEntry) → j < length xs → j ≤ (get_or xs j d).entry.number) →
    All (λ (y : SealedEntry). y.entry.number < number) xs → length xs ≤ number
above [] number dense before = omega arith
above (y ∷ xs) number dense before =
    let a = dense (length xs) y (omega arith) in
    let b = before (length xs) y (omega arith) in
    omega arith

-- one entry more is taken well
taken_more : (from : ℕ) (old new : Inn) (x : SealedEntry) → IsTakenWell from old.taken → Took old x new →
    old.from ≡ from → x.entry.number < max_actions → IsTakenWell from new.taken
taken_more from old new x well took of small = rw took.taken (record {
  makers = All-push (λ (y : SealedEntry). y.entry.maker ≡ from) old.taken x well.makers (took.from ∙ of);
  small = All-push (λ (y : SealedEntry). y.entry.number < max_actions) old.taken x well.small small;
  dense = λ j d lt. elim (cases_eq j (length old.taken)) [
    | inl s ↦ rw (last_of old.taken x d j s)
        (let n = above old.taken x.entry.number well.dense took.number in omega arith)
    | inr n ↦ (let lower : j < length old.taken = omega (arith, length-append old.taken (x ∷ [])) in
        rw (get_or_append_left old.taken (x ∷ []) d j lower) (well.dense j d lower))
  ];
})

-- no loss of a station is of an entry of another machine whose number is above all that it took
pub none_above : (s : StationState) (from number : ℕ) (d : Inn) → IsStation s → from ≢ s.machine.config.number →
    ((z : SealedEntry) → Contains (get_or s.inns from d).taken z → z.entry.number < number) →
    All (λ (loss : Loss). is_of from number s.machine.config.number loss ≡ false) s.losses
none_above s from number d is other below j loss lt =
    let one = get_or s.losses j loss in
    let own : ℕ = s.machine.config.number in
    elim (is.fits j loss lt) [
      | inl hand ↦ other_from one from number own (λ e. other (sym e ∙ hand.0))
      | inr ear ↦ elim (cases_eq one.from from) [
        | inl e ↦ (let (z, taken, named, _) = ear.3 d in let low = below z (rw e at taken) in
            other_number one from number own (λ n. absurd (omega arith)))
        | inr e ↦ other_from one from number own e
      ]
    ]

-- an end took these entries, or none
module _ (old : StationState) (from : ℕ) (end : Inn) (took : List SealedEntry) (is : IsStation old)
    (within : from < length old.inns) (taken : (d : Inn) → end.taken ≡ (get_or old.inns from d).taken ++ took)
    (well : IsTakenWell from end.taken) where
  -- at its place is this end, and at the others is what was there
  place : (k : ℕ) (d : Inn) → ((k ≡ from) × (get_or (set old.inns from end) k d ≡ end)) ⊎
      ((k ≢ from) × (get_or (set old.inns from end) k d ≡ get_or old.inns k d))
  place k d = elim (cases_eq k from) [
    | inl s ↦ inl (s, ap (λ n. get_or (set old.inns from end) n d) s ∙ get_or-set_same old.inns from end d within)
    | inr n ↦ inr (n, get_or-set_other old.inns from k end d n)
  ]

  -- all entries taken on a link are still its sender's, and small and dense in number
  pub taken_after : (k : ℕ) (d : Inn) → k < length (set old.inns from end) →
      IsTakenWell k (get_or (set old.inns from end) k d).taken
  taken_after k d lt = elim (place k d) [
    | inl (s, e) ↦ rw (e, s) well
    | inr (n, e) ↦ rw e (is.taken k d (omega (arith, length-set old.inns from end)))
  ]

  -- as many more are taken in all
  pub sum_after : sum_by (λ (i : Inn). length i.taken) (set old.inns from end)
      ≡ sum_by (λ (i : Inn). length i.taken) old.inns + length took
  sum_after =
      let s = sum_by-set (λ (i : Inn). length i.taken) old.inns from end end within in
      let l = ap length (taken end) ∙ length-append (get_or old.inns from end).taken took in
      omega arith

  -- what was taken before is still there
  still_taken : (k : ℕ) (d : Inn) (y : SealedEntry) → Contains (get_or old.inns k d).taken y →
      Contains (get_or (set old.inns from end) k d).taken y
  still_taken k d y c = elim (place k d) [
    | inl (s, e) ↦ rw (e, taken d) (Contains-append_left (get_or old.inns from d).taken took y (rw s at c))
    | inr (n, e) ↦ rw e c
  ]

  -- the station with the end, and with what became of what it took
  abbrev pub after : MachineState → List Loss → List Tick → StationState
  after m losses ticks = record old { machine = m; inns = set old.inns from end; losses = losses; ticks = ticks }

  -- what is asked of the history after it, and of what was lost
  pub record Follows (h : List (Event SealedEntry)) (lost : List Loss) : Type 0 where
    pub kept : IsMachine (record old.machine { events = h })
    -- nothing was sent
    pub sends : sent h ≡ sent old.machine.events
    -- what was got of the link's sender is what was taken and isn't lost
    pub here : got_from node_of_sealed from h
        ≡ arriving node_of_sealed (old.losses ++ lost) from old.machine.config.number end.taken
    -- of others nothing was got
    pub others : (k : ℕ) → k ≢ from → got_from node_of_sealed k h ≡ got_from node_of_sealed k old.machine.events
    pub makers : (e : SealedEntry) → Contains h (Got e) → e.entry.maker < length old.outs
    -- causes stay
    pub stays : (y : SealedEntry) (why : LossWhy) → IsInCause old.machine y why →
        IsInCause (record old.machine { events = h }) y why
    -- what was lost is of what was taken
    pub few : length lost ≤ length took
    pub only : All (λ (loss : Loss). (loss.from ≡ from) ×
        IsOfEar (after (record old.machine { events = h }) (old.losses ++ lost) old.ticks) loss) lost
    pub once : AreOnce (old.losses ++ lost)

  -- then what is true of every station is true of it
  pub station_after : (h : List (Event SealedEntry)) (lost : List Loss) (m : MachineState) (losses : List Loss)
      (ticks : List Tick) → Follows h lost → m ≡ record old.machine { events = h } → losses ≡ old.losses ++ lost →
      ticks ≡ ticks_from 0 h → IsStation (after m losses ticks)
  station_after h lost m losses ticks f is_now added ticked =
      let own : ℕ = old.machine.config.number in
      rw (is_now, added) (record {
        machine = f.kept;
        going = is.going;
        small = is.small;
        place = is.place;
        few = is.few;
        as_many = length-set old.inns from end ∙ is.as_many;
        puts = λ to d lt differs. rw f.sends (is.puts to d lt differs
            ∙ sym (other_way old.losses lost own to (sent old.machine.events)
            (λ j loss lt. inl (f.only j loss lt).1.2)));
        heard = λ k d lt differs. elim (place k d) [
          | inl (s, e) ↦ rw (e, s) f.here
          | inr (n, e) ↦ rw e (f.others k n ∙ is.heard k d (omega (arith, length-set old.inns from end)) differs
              ∙ sym (other_way old.losses lost k own (get_or old.inns k d).taken
              (λ j loss lt. inl (λ s. n (sym s ∙ (f.only j loss lt).0)))))
        ];
        taken = taken_after;
        makers = f.makers;
        fits = All-append (λ (loss : Loss).
            IsOfHand (after (record old.machine { events = h }) (old.losses ++ lost) ticks) loss ⊎
            IsOfEar (after (record old.machine { events = h }) (old.losses ++ lost) ticks) loss) old.losses lost
            (λ j loss lt. elim (is.fits j loss lt) [
              | inl (maker, low, to, apart, cause) ↦ inl (maker, omega (arith, ap length f.sends), to, apart, cause)
              | inr (to, below, apart, has) ↦ inr (
                to,
                below,
                apart,
                λ d. let (z, c, number, cause) = has d in
                    (z, still_taken (get_or old.losses j loss).from d z c, number, f.stays z _ cause),
              )
            ])
            (λ j loss lt. let (_, of) = f.only j loss lt in inr of);
        once = f.once;
        scripted = λ n to below inside apart named. Contains-append_left old.losses lost
            (record { from = own; number = n; to = to; why = Scripted })
            (is.scripted n to (omega (arith, ap length f.sends)) inside apart named);
        ticks = ticked;
        few_losses = omega (arith, length-append old.losses lost, is.few_losses, f.few, sum_after, ap length f.sends);
      })

-- the link was found empty: the station keeps what is true of every station, and nothing else
-- changed
pub found_none : (old : StationState) (from : ℕ) (link : LinkView) (end : Inn) → IsStation old →
    from < length old.inns → from ≢ old.machine.config.number → IsInOf link end →
    ((d : Inn) → IsInOf link (get_or old.inns from d)) →
    ((d : Inn) → FoundLinkEmpty (get_or old.inns from d) end) →
    IsStation (record old { inns = set old.inns from end }) ×
    EarFoundNone from old (record old { inns = set old.inns from end })
found_none old from link end is within other kept ends empty = (
  station_after old from end [] is within (λ d. (empty d).taken ∙ sym (append-nil (get_or old.inns from d).taken))
      (rw (empty end).taken (is.taken from end within)) old.machine.events [] old.machine old.losses old.ticks
      (record {
        kept = is.machine;
        sends = refl;
        here = rw (append-nil old.losses, (empty end).taken) (is.heard from end within other);
        others = λ k n. refl;
        makers = is.makers;
        stays = λ y why cause. cause;
        few = omega arith;
        only = λ j loss lt. absurd (omega arith);
        once = rw (append-nil old.losses) is.once;
      })
      refl (sym (append-nil old.losses)) is.ticks,
  record {
    end = end;
    empty = empty;
    changed = refl;
    made = (let same = inns_same old.inns from end
        (λ d. (kept.0 ∙ sym (ends d).0, kept.1 ∙ sym (ends d).1)) in cc);
  },
)

-- hearing doesn't change what a machine is made of
pub same_config : (answer : MachineHeard) (x : SealedEntry) (m new : MachineState) → new ≡ machine_after answer x m →
    record new { events = [] } ≡ record m { events = [] }
same_config heard.Taken x m new e = ap (λ (s : MachineState). record s { events = [] }) e
same_config (heard.Stopped back) x m new e = ap (λ (s : MachineState). record s { events = [] }) e
same_config (heard.Own back) x m new e = ap (λ (s : MachineState). record s { events = [] }) e
same_config (heard.Already back) x m new e = ap (λ (s : MachineState). record s { events = [] }) e
same_config (heard.Full back) x m new e = ap (λ (s : MachineState). record s { events = [] }) e

-- what is known where an entry was taken
pub record Looked (old : StationState) (from : ℕ) (end : Inn) (x : SealedEntry) : Type 0 where
  pub is : IsStation old
  -- the link is from one of the machines
  pub within : from < length old.inns
  -- which isn't this station's
  pub other : from ≢ old.machine.config.number
  -- the end took the entry, and is now as given
  pub took : (d : Inn) → Took (get_or old.inns from d) x end
  pub small : x.entry.number < max_actions
  -- the end carried the entries of that machine
  pub of : (d : Inn) → (get_or old.inns from d).from ≡ from
  -- and it is still of the same link
  pub same : (d : Inn) → (end.queue ≡ (get_or old.inns from d).queue) × (end.from ≡ (get_or old.inns from d).from)

module _ {old : StationState} {from : ℕ} {end : Inn} {x : SealedEntry} (l : Looked old from end x) where
  -- the entry's maker is the link's sender
  pub maker_is : x.entry.maker ≡ from
  maker_is = (l.took end).from ∙ l.of end

  -- the entry is taken well
  well : IsTakenWell from end.taken
  well = taken_more from (get_or old.inns from end) end x (l.is.taken from end l.within) (l.took end) (l.of end) l.small

  -- no loss is of the entry yet
  none_yet : All (λ (loss : Loss). is_of from x.entry.number old.machine.config.number loss ≡ false) old.losses
  none_yet = none_above old from x.entry.number end l.is l.other (λ z c.
      All-contains (λ (z : SealedEntry). z.entry.number < x.entry.number) (get_or old.inns from end).taken z
      (l.took end).number c)

  -- at most 4,096 entries are sent, and taken from each of 16 machines: so there is room for one
  -- loss more
  pub room_for_loss : length old.losses < 131072
  room_for_loss =
      let many = length-set old.inns from end ∙ l.is.as_many in
      let few = l.is.few in
      let taken = all_taken (set old.inns from end) (omega arith)
      (taken_after old from end (x ∷ []) l.is l.within (λ d. (l.took d).taken) well) in
      let sum = sum_after old from end (x ∷ []) l.is l.within (λ d. (l.took d).taken) well in
      let w = l.is.machine.within in let s = l.is.small in let f = sent_few old.machine.events in
      let o = l.is.few_losses in
      omega arith

  -- where the entry is heard the log had room for it, and so there is room for its tick
  pub room_for_heard : (answer : MachineHeard) → IsHeard old.machine x answer → None ≡ cause_of answer →
      length old.ticks < old.machine.config.log
  room_for_heard heard.Taken (_, (_, _, room)) none = omega (arith, ticks_as_many old l.is)
  room_for_heard (heard.Stopped back) answers none = cc
  room_for_heard (heard.Own back) (_, (_, own)) none = absurd (l.other (sym maker_is ∙ own))
  room_for_heard (heard.Already back) answers none = cc
  room_for_heard (heard.Full back) answers none = cc

  -- the loss of the entry on its way to this machine
  abbrev the_loss : LossWhy → Loss
  the_loss why = record { from = from; number = x.entry.number; to = old.machine.config.number; why = why }

  -- the station with the end, and with what became of the entry
  abbrev pub looked : MachineState → List Loss → List Tick → StationState
  looked m losses ticks = record old { machine = m; inns = set old.inns from end; losses = losses; ticks = ticks }

  -- where the machine goes on and its log had room, it keeps what is true of every station with the
  -- entry heard
  station_heard : (m : MachineState) (losses : List Loss) (ticks : List Tick) → IsMachine m → IsGoing old.machine →
      length old.machine.events < old.machine.config.log → IsFate x from None old (looked m losses ticks) →
      IsStation (looked m losses ticks)
  station_heard m losses ticks kept goes room (is_now, same, ticked) =
      let own : ℕ = old.machine.config.number in
      let h : List (Event SealedEntry) = old.machine.events in
      station_after old from end (x ∷ []) l.is l.within (λ d. (l.took d).taken) well (h ++ Got x ∷ []) [] m losses ticks
      (record {
        kept = rw is_now at kept;
        sends = sent-got h x;
        here = got_from-here h x from maker_is
            ∙ rw (append-nil old.losses, (l.took end).taken)
            (takes_heard old.losses from own (get_or old.inns from end).taken x (got_from node_of_sealed from h)
            none_yet (l.is.heard from end l.within l.other));
        others = λ k n. got_from-other h x k (λ s. n (sym s ∙ maker_is));
        makers = λ y c. elim (Contains-push_cases h (Got x) (Got y) c) [
          | inl there ↦ l.is.makers y there
          | inr s ↦ (let q : Got x ≡ Got y = s in let e : x ≡ y = cc in rw (← e, maker_is)
              (let w = l.within in let n = l.is.as_many in omega arith))
        ];
        stays = λ y why cause. in_stays old.machine (Got x) y why goes room cause;
        few = omega arith;
        only = λ j loss lt. absurd (omega arith);
        once = rw (append-nil old.losses) l.is.once;
      })
      is_now (same ∙ sym (append-nil old.losses)) (ticked ∙ ticks_more old (Got x) l.is)

  -- and where the machine has a cause, with the entry lost
  station_lost : (m : MachineState) (losses : List Loss) (ticks : List Tick) (why : LossWhy) →
      IsInCause old.machine x why → IsFate x from (Some why) old (looked m losses ticks) →
      IsStation (looked m losses ticks)
  station_lost m losses ticks why cause (is_now, same, added) =
      let own : ℕ = old.machine.config.number in
      let Fits : Loss → Type 0 = λ loss. (loss.from ≡ from) × IsOfEar (record old { inns = set old.inns from end }) loss
      in
      station_after old from end (x ∷ []) l.is l.within (λ d. (l.took d).taken) well old.machine.events
      (the_loss why ∷ []) m losses ticks
      (record {
        kept = l.is.machine;
        sends = refl;
        here = rw (l.took end).taken
            (takes_lost old.losses (the_loss why) from own (get_or old.inns from end).taken x
            (got_from node_of_sealed from old.machine.events)
            (itself (the_loss why) from x.entry.number own refl refl refl) refl (l.took end).number
            (l.is.heard from end l.within l.other));
        others = λ k n. refl;
        makers = l.is.makers;
        stays = λ y why cause. cause;
        few = omega arith;
        only = All-cons Fits (the_loss why) [] (
          refl,
          (
            refl,
            omega (arith, l.within, l.is.as_many),
            l.other,
            λ d. (
              x,
              rw (get_or-set_same old.inns from end d l.within, (l.took d).taken)
                  (Contains-push (get_or old.inns from d).taken x),
              refl,
              cause,
            ),
          ),
        ) (All-nil Fits);
        once = all_pairs_push Differ old.losses (the_loss why) l.is.once
            (λ k d lt. differ_sym (the_loss why) (get_or old.losses k d) (none_yet k d lt));
      })
      is_now added (same ∙ l.is.ticks)

  -- what the ear adds to the losses and to the ticks
  abbrev pub Adds : Option LossWhy → List Loss → List Tick → Type 0
  Adds None losses ticks =
      (losses ≡ old.losses) × (ticks ≡ old.ticks ++ record { pass = 1; what = length old.machine.events } ∷ [])
  Adds (Some why) losses ticks = (ticks ≡ old.ticks) × (losses ≡ old.losses ++ the_loss why ∷ [])

  -- the station keeps what is true of every station, and the entry has its fate
  fate : (answer : MachineHeard) (m : MachineState) (losses : List Loss) (ticks : List Tick) →
      IsHeard old.machine x answer → m ≡ machine_after answer x old.machine → IsMachine m →
      Adds (cause_of answer) losses ticks →
      IsStation (looked m losses ticks) × IsFate x from (cause_of answer) old (looked m losses ticks)
  fate heard.Taken m losses ticks (going, (_, _, room)) now kept (a, b) =
      (station_heard m losses ticks kept going room (now, a, b), (now, a, b))
  fate (heard.Stopped back) m losses ticks (has, _) now kept (a, b) = (
    station_lost m losses ticks ToStopped (stopped_there old.machine l.is.machine l.is.going has) (now, a, b),
    (now, a, b),
  )
  fate (heard.Own back) m losses ticks (_, (_, own)) now kept (a, b) = absurd (l.other (sym maker_is ∙ own))
  fate (heard.Already back) m losses ticks (_, (_, _, borne)) now kept (a, b) =
      (station_lost m losses ticks SameDigest borne (now, a, b), (now, a, b))
  fate (heard.Full back) m losses ticks (going, (_, _, _, full)) now kept (a, b) =
      (station_lost m losses ticks LogFull (going_on old.machine going, full) (now, a, b), (now, a, b))

  -- so the ear took the entry, and the machine heard it or lost it by its cause
  pub took_one : (answer : MachineHeard) (m : MachineState) (losses : List Loss) (ticks : List Tick) →
      IsHeard old.machine x answer → m ≡ machine_after answer x old.machine → IsMachine m →
      Adds (cause_of answer) losses ticks →
      IsStation (looked m losses ticks) × EarTook from old (looked m losses ticks)
  took_one answer m losses ticks answers now kept adds =
      let (station, its_fate) = fate answer m losses ticks answers now kept adds in (
        station,
        record {
          entry = x;
          end = end;
          took = l.took;
          inns = refl;
          maker = maker_is;
          answer = answer;
          heard = answers;
          fate = its_fate;
          outs = refl;
          made = (let same = same_config answer x old.machine m now in
              let inns = inns_same old.inns from end l.same in cc);
        },
      )
