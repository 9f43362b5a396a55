-- A station after its hand's turn.
use Rattle.machine_floor.proofs.{Causes.End, Causes.in_stays, Causes.out_new, Causes.out_stays, Ears.all_taken}
use Rattle.machine_floor.proofs.Imports.{[], All, All-append, All-filter, All-replicate, all_by, ap, AreCopies, arith}
use Rattle.machine_floor.proofs.Imports.{cases_lt, Contains, Contains-append_left, Contains-append_right}
use Rattle.machine_floor.proofs.Imports.{Contains-get_or, Contains-push_cases, Event, false, get_or, Got, got_from-sent}
use Rattle.machine_floor.proofs.Imports.{HandDid, inl, inr, is_lost, is_scripted, IsDone, IsGoing, IsMachine, IsOfEar}
use Rattle.machine_floor.proofs.Imports.{IsOfHand, IsSentBelow, IsStation, length, length-append, List, Loss, loss_of}
use Rattle.machine_floor.proofs.Imports.{MachineState, max_actions, may_follow, named_is_lost, numbers_below}
use Rattle.machine_floor.proofs.Imports.{once_append, other_from, other_number, other_to, other_way, put_grows}
use Rattle.machine_floor.proofs.Imports.{put_or_lost, puts_more, refl, Scripted, SealedEntry, Sent, sent, sent-push}
use Rattle.machine_floor.proofs.Imports.{sent_few, StationState, subst, sym, Tick, true, way_of_loss, with_event, ℕ}
use Rattle.machine_floor.proofs.Imports.{◌++◌, ◌+◌, ◌<◌, ◌∙◌, ◌∷◌, ◌≡◌, ◌≢◌, ◌≤◌, ◌⊎◌}
use Rattle.machine_floor.proofs.{Made.outs_same, Ticks.ticks_as_many, Ticks.ticks_more}

-- a member of a list that has one
pub some_of : {X : Type 0} (xs : List X) (k : ℕ) → k < length xs → X
some_of [] k lt = absurd (omega arith)
some_of (x ∷ xs) k lt = x

-- what was put on a link to another machine has lower numbers than the next entry
pub lower : (old : StationState) (number : ℕ) → IsStation old → number ≡ length (sent old.machine.events) → (to : ℕ) →
    (d : End) → to < length old.outs → to ≢ old.machine.config.number →
    All (λ (x : SealedEntry). x.entry.number < number) (get_or old.outs to d).put
lower old number is at to d lt differs =
    let P : SealedEntry → Type 0 = λ x. x.entry.number < number in
    rw (is.puts to d lt differs) (All-filter _ P (sent old.machine.events) (all_by P (sent old.machine.events) (λ x c.
    let n = (numbers_below old.machine.config.number old.machine.events is.machine.legal x c).0 in omega arith)))

module _ (old : StationState) (e : SealedEntry) (outs : List End) (lost : List Loss) (is : IsStation old)
    (maker : e.entry.maker ≡ old.machine.config.number) (number : e.entry.number ≡ length (sent old.machine.events))
    (sends : IsSentBelow old.loses old.link (length old.outs) e old.outs outs lost)
    (kept : IsMachine (with_event (Sent e) old.machine)) (goes : IsGoing old.machine)
    (room : length old.machine.events < old.machine.config.log) where
  -- the station with the entry sent, with what was put on the links out and what was lost there
  abbrev after_hand : StationState
  after_hand = record old {
    machine = with_event (Sent e) old.machine;
    outs = outs;
    losses = old.losses ++ lost;
    ticks = old.ticks ++ record { pass = 0; what = length old.machine.events } ∷ [];
  }

  -- what is true of every station is true after the sending
  IsStation-hand : IsStation after_hand
  IsStation-hand =
      let own : ℕ = old.machine.config.number in
      let h : List (Event SealedEntry) = old.machine.events in
      let k : ℕ = length (sent h) in
      let one_more : sent (h ++ Sent e ∷ []) ≡ sent h ++ e ∷ [] = sent-push h e in
      let count : length (sent (h ++ Sent e ∷ [])) ≡ k + 1 = ap length one_more ∙ length-append (sent h) (e ∷ []) in
      record {
        machine = kept;
        going = is.going;
        small = is.small;
        place = omega (arith, is.place, sends.count);
        few = omega (arith, is.few, sends.count);
        as_many = is.as_many ∙ sym sends.count;
        puts = λ to d lt differs.
            let inside : to < length old.outs = omega (arith, sends.count) in
            let P : ℕ → ℕ → Type 0 = λ m n. (((get_or outs to d).put ≡ (get_or old.outs to d).put ++ e ∷ []) ×
            (is_lost lost m n to ≡ false)) ⊎
            (((get_or outs to d).put ≡ (get_or old.outs to d).put) × (is_lost lost m n to ≡ true)) in
            rw one_more (puts_more old.losses lost own to k (sent h) e (get_or old.outs to d).put (get_or outs to d).put
            number (λ x c. (numbers_below own h is.machine.legal x c).0)
            (λ j loss below from. elim (is.fits j loss below) [ inl hand ↦ hand.1 | inr ear ↦ absurd (ear.2 from) ])
            (λ j loss below. (sends.losses j loss below).1 ∙ number) (is.puts to d inside differs)
            (subst (P own) number (subst (λ m. P m e.entry.number) maker
            (put_or_lost _ old.link to e _ _ lost (sends.done to d inside (λ s. differs (s ∙ maker)))))));
        heard = λ from d lt differs.
            got_from-sent h e from ∙ is.heard from d lt differs
            ∙ sym (other_way old.losses lost from own (get_or old.inns from d).taken
            (λ j loss below. inr (λ s. (sends.losses j loss below).3 (s ∙ sym maker))));
        taken = is.taken;
        makers = λ x c. elim (Contains-push_cases h (Sent e) (Got x) c) [
          | inl there ↦ (let m = is.makers x there in omega (arith, sends.count))
          | inr s ↦ (let q : Sent e ≡ Got x = s in cc)
        ];
        fits = All-append (λ (loss : Loss). IsOfHand after_hand loss ⊎ IsOfEar after_hand loss) old.losses lost
            (λ j loss below. let one = get_or old.losses j loss in elim (is.fits j loss below) [
              | inl (from, low, to, apart, cause) ↦ inl (
                from,
                omega (arith, low, count),
                omega (arith, to, sends.count),
                apart,
                out_stays old.loses old.link old.outs outs one one.why
                    (λ d. put_grows _ old.link one.to e _ _ lost
                    (sends.done one.to d to (λ s. apart (s ∙ maker)))) cause,
              )
              | inr (to, within, apart, taken) ↦ inr (
                to,
                omega (arith, within, sends.count),
                apart,
                λ d. let (y, in_taken, named, cause) = taken d in
                    (y, in_taken, named, in_stays old.machine (Sent e) y one.why goes room cause),
              )
            ])
            (λ j loss below. let (from, same, to, other) = sends.losses j loss below in
            let one = get_or lost j loss in let apart : one.to ≢ own = λ s. other (s ∙ sym maker) in
            inl (
              from ∙ maker,
              omega (arith, same, count, number),
              omega (arith, to, sends.count),
              apart,
              out_new old.loses old.link e old.outs outs one one.why (some_of old.outs own is.place) from same
                  (λ d. way_of_loss _ old.link one.to e _ _ lost sends.rising one
                  (Contains-get_or lost j loss below) from same refl
                  (sends.done one.to d to other))
                  (λ d. lower old e.entry.number is number one.to d to apart),
            ));
        once = once_append old.losses lost is.once
            (λ i j d lt within. let a = get_or lost i d in let b = get_or lost j d in
            other_to b a.from a.number a.to (λ s. let r = sends.rising i j d lt within in absurd (omega arith)))
            (λ i j d below within.
            let a = get_or old.losses i d in let b = get_or lost j d in let l = sends.losses j d within in
            elim (is.fits i d below) [
              | inl hand ↦ other_number b a.from a.number a.to (λ s. let n = hand.1 in let m = l.1 in
                  absurd (omega (arith, number)))
              | inr ear ↦ other_from b a.from a.number a.to (λ s. ear.2 (sym s ∙ l.0 ∙ maker))
            ]);
        scripted = λ n to below within apart named.
            let at : Loss = record { from = own; number = n; to = to; why = Scripted } in
            let inside : to < length old.outs = omega (arith, sends.count) in
            elim (cases_lt n k) [
              | inl before ↦ Contains-append_left old.losses lost at (is.scripted n to before inside apart named)
              | inr here ↦ (let same : n ≡ k = omega (arith, count) in
                  let d : End = some_of old.outs own is.place in
                  let its : is_scripted old.loses e.entry.maker e.entry.number to ≡ true =
                  ap (λ m. is_scripted old.loses m e.entry.number to) maker
                  ∙ ap (λ m. is_scripted old.loses own m to) (number ∙ sym same) ∙ named in
                  let told : Contains lost (loss_of e to Scripted) =
                  named_is_lost _ old.link to e (get_or old.outs to d) (get_or outs to d) lost
                  (sends.done to d inside (λ s. apart (s ∙ maker))) its in
                  Contains-append_right old.losses lost at (subst (λ (loss : Loss). Contains lost loss)
                  (ap (λ m. record { from = m; number = e.entry.number; to = to; why = Scripted }) maker
                  ∙ ap (λ m. record { from = own; number = m; to = to; why = Scripted }) (number ∙ sym same)) told))
            ];
        ticks = ticks_more old (Sent e) is;
        few_losses = omega (arith, length-append old.losses lost, is.few_losses, sends.few, is.few, count);
      }

module _ {old : StationState} {receivers number : ℕ} {copies : List SealedEntry} {new : MachineState}
    (is : IsStation old) (done : IsDone old.machine receivers number copies new) where
  -- the entry's maker is the machine
  pub maker_is : done.entry.entry.maker ≡ old.machine.config.number
  maker_is = (may_follow old.machine.config old.machine.events done.entry done.may).1.maker

  -- its number is how many were sent before
  pub number_is : done.entry.entry.number ≡ length (sent old.machine.events)
  number_is = (may_follow old.machine.config old.machine.events done.entry done.may).1.number

  -- the log had room for the event, and so there is room for its tick
  pub room_for_tick : length old.ticks < old.machine.config.log
  room_for_tick = let r = done.may.room in omega (arith, ticks_as_many old is)

  -- what was sent and taken is few enough that there is room for a loss on each link out
  pub room_for_losses : length old.losses + length old.outs ≤ 131072
  room_for_losses =
      let r = done.may.room in let s = is.small in let f = sent_few old.machine.events in let l = is.few_losses in
      let o = is.few in let m = is.as_many in let t = all_taken old.inns (omega arith) is.taken in omega arith

  -- each copy has the machine as maker, and the number that the machine gave, which is below
  -- 4,096
  pub copies_are : AreCopies old.machine.config.number number copies
  copies_are =
      let r = done.may.room in let s = is.small in let f = sent_few old.machine.events in
      let P : SealedEntry → Type 0 = λ x. (x.entry.maker ≡ old.machine.config.number) × (x.entry.number ≡ number) ×
      (x.entry.number < max_actions) in
      subst (All P) (sym done.copied)
      (All-replicate P receivers done.entry (maker_is, number_is ∙ sym done.counted, omega (arith, number_is)))

  -- each copy is the entry itself
  pub copies_same : All (λ (x : SealedEntry). x ≡ done.entry) copies
  copies_same = rw done.copied (All-replicate (λ (x : SealedEntry). x ≡ done.entry) receivers done.entry refl)

  -- the station keeps what is true of every station, and to get there the machine sent the entry,
  -- and each other machine's link has it or it is lost there
  pub turned : (outs : List End) (losses : List Loss) (ticks : List Tick) (lost : List Loss) → IsMachine new →
      ticks ≡ old.ticks ++ record { pass = 0; what = length old.ticks } ∷ [] → losses ≡ old.losses ++ lost →
      IsSentBelow old.loses old.link (length old.outs) done.entry old.outs outs lost →
      IsStation (record old { machine = new; outs = outs; losses = losses; ticks = ticks }) ×
      HandDid old (record old { machine = new; outs = outs; losses = losses; ticks = ticks })
  turned outs losses ticks lost kept ticked added sends =
      let placed : ticks ≡ old.ticks ++ record { pass = 0; what = length old.machine.events } ∷ [] =
      ticked ∙ ap (λ n. old.ticks ++ record { pass = 0; what = n } ∷ []) (ticks_as_many old is) in (
        rw (done.changed, added, placed) (IsStation-hand old done.entry outs lost is maker_is number_is sends
            (rw done.changed at kept) done.going done.may.room),
        record {
          entry = done.entry;
          may = done.may;
          machine = done.changed;
          ticks = placed;
          lost = lost;
          losses = added;
          sent = sends;
          inns = refl;
          made = (let same = ap (λ (m : MachineState). record m { events = [] }) done.changed in
              let ends = outs_same old.outs outs sends.count sends.queues in cc);
        },
      )
