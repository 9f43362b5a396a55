-- What a sweep keeps when an entry that waits is handed to the machine that it waits for.
use Rattle.polling_world.specs.declared.heard.MachineHeard.TheVariants as heard
use Rattle.finished_floor.proofs.Events.{count_event, going_on, sent_since, swept_event}
use Rattle.finished_floor.proofs.Imports.{[], All-push, all_pairs_push, and_parts, ap, append-nil, append_assoc}
use Rattle.finished_floor.proofs.Imports.{AreNumbered, AreOnce, arith, Bool, Contains, Contains-append_cases}
use Rattle.finished_floor.proofs.Imports.{Contains-append_left, Contains-append_right, Contains-filter_cases}
use Rattle.finished_floor.proofs.Imports.{Contains-head, count_sent, Differ, eq-eqb, eqb-true, false, get_or, Got}
use Rattle.finished_floor.proofs.Imports.{got_from, has_stopped, history, inl, inr, is_lost, is_of, is_reached}
use Rattle.finished_floor.proofs.Imports.{is_scripted, IsFate, IsHanded, IsHeard, IsLicensed, IsLossCause, IsMachine}
use Rattle.finished_floor.proofs.Imports.{IsNumbered, IsSwept, IsTrue, IsWaiting, IsWithinStop, leb-true, length}
use Rattle.finished_floor.proofs.Imports.{LinkFull, List, LogFull, Lose, Loss, loss_of, LossWhy, lost_by, MachineState}
use Rattle.finished_floor.proofs.Imports.{node_of_sealed, None, not, not-true, Option, or_parts, refl, SameDigest}
use Rattle.finished_floor.proofs.Imports.{Scripted, SealedEntry, sent, sent_as_many, set_cases, set_same, slice_get}
use Rattle.finished_floor.proofs.Imports.{slice_set, Some, suc, SweepsOn, SweptFloor, sym, ToStopped, true, true≢false}
use Rattle.finished_floor.proofs.Imports.{Waits, with_event, world_of, zero, ℕ, ◌&&◌, ◌++◌, ◌<◌, ◌==◌, ◌∙◌, ◌∷◌, ◌≡◌}
use Rattle.finished_floor.proofs.{Imports.◌≢◌, Imports.◌⊎◌, Lists.only_if, Lists.only_if_is, Numbers.numbers_below}
use Rattle.finished_floor.proofs.{Numbers.rising_sent, Once.differ_sym, Places.history_event, Places.legal_at}
use Rattle.finished_floor.proofs.{Places.length_set, Sweeps.balanced_heard, Sweeps.balanced_lost}

-- one loss more, of an entry that wasn't lost on its way
once_push : (losses : List Loss) (l : Loss) → AreOnce losses → is_lost losses l.from l.number l.to ≡ false →
    AreOnce (losses ++ l ∷ [])
once_push losses l once none =
    all_pairs_push Differ losses l once (λ k d lt. differ_sym l (get_or losses k d) (none_of losses none k d lt))
  where
    -- where an entry isn't lost on a way, none of the losses is of it there
    none_of : (xs : List Loss) → is_lost xs l.from l.number l.to ≡ false → (k : ℕ) (d : Loss) → k < length xs →
        Differ l (get_or xs k d)
    none_of [] none k d lt = absurd (omega arith)
    none_of (x ∷ xs) none zero d lt = (or_parts (is_of l.from l.number l.to x) _ none).0
    none_of (x ∷ xs) none (suc k) d lt =
        none_of xs (or_parts (is_of l.from l.number l.to x) _ none).1 k d (omega arith)

-- a machine that has stopped, and not by a call, has as many events as it stops at
pub stopped_there : (m : MachineState) → IsMachine m → m.marked ≡ false → IsTrue (has_stopped m) →
    m.stop ≡ Some (length m.events)
stopped_there m is marked has = by m.stop (length m.events) is.stop (rw marked at has)
  where
    -- a machine that reached its stop and isn't past it is there
    by : (stop : Option ℕ) (n : ℕ) → IsWithinStop stop n → IsTrue (is_reached stop n) → stop ≡ Some n
    by None n within reached = cc
    by (Some k) n within reached = let l = leb-true k n reached in ap (λ i. Some i) (omega arith)

module _ (loses : List Lose) (old : List MachineState) (before : List Loss) (waits later : Waits)
    (ms : List MachineState) (losses : List Loss) (is : IsSwept loses old before waits ms losses)
    (to : ℕ) (e : SealedEntry) (lf : e.entry.maker < length ms) (lt : to < length ms) (apart : e.entry.maker ≢ to)
    (takes : (c d : ℕ) → waits c d ≡ only_if ((to == d) && (e.entry.maker == c)) e ++ later c d) where
  -- the entry's maker
  abbrev from : ℕ
  from = e.entry.maker

  -- it was sent, and isn't lost on its way yet
  sent_before : Contains (sent (history (world_of ms) from)) e × (is_lost losses from e.entry.number to ≡ false)
  sent_before =
      let got = got_from node_of_sealed from (history (world_of ms) to) in
      let there : Contains (got ++ waits from to) e = Contains-append_right got (waits from to) e
      (rw (takes from to, eq-eqb to to refl, eq-eqb from from refl) (Contains-head e (later from to))) in
      let both = Contains-filter_cases (λ (x : SealedEntry). not (is_lost losses from x.entry.number to))
      (sent (history (world_of ms) from)) e (rw (is.balanced from to lf lt apart) at there) in
      (both.0, not-true _ both.1)

  -- what waited still waits, or it is this entry
  waits_on : (c number d : ℕ) → IsWaiting waits c number d →
      IsWaiting later c number d ⊎ ((c ≡ from) × (number ≡ e.entry.number) × (d ≡ to))
  waits_on c number d (x, waits_x, is_number) =
      elim (Contains-append_cases (only_if ((to == d) && (from == c)) e) (later c d) x (rw (takes c d) at waits_x)) [
        | inl here ↦ (let (way, same) = only_if_is _ e x here in
            let (t, f) = and_parts (to == d) (from == c) way in
            inr (sym (eqb-true from c f), rw same (sym is_number), sym (eqb-true to d t)))
        | inr more ↦ inl (x, more, is_number)
      ]

  -- it is heard
  heard_now : (m : MachineState) → slice_get ms to ≡ Some m → IsHeard m e heard.Taken →
      is_scripted loses from e.entry.number to ≡ false →
      IsSwept loses old before later (slice_set ms to (with_event (Got e) m)) losses
  heard_now m stood (going, (maker, fresh, room)) unscripted =
      swept_event ms to m (Got e) stood going room loses old before waits later losses is (fresh, maker)
      (λ f s. cc) (λ f s. let same : e ≡ f = cc in rw (← same) lf)
      (balanced_heard node_of_sealed (length ms) (history (world_of ms)) _ losses waits later to e is.balanced
      (history_event ms to m (Got e) stood) takes)
      (λ c k d lc ld differs low high named.
      let none : length (sent_since ms to m (Got e) stood c) ≡ 0 =
      elim (to == c) as (λ b. length (sent (only_if b (Got e))) ≡ 0) [ true ↦ refl | false ↦ refl ] in
      let count = count_event ms to m (Got e) stood c in
      elim (is.scripted c k d lc ld differs low (omega arith) named) [
        | inl there ↦ inl there
        | inr w ↦ elim (waits_on c k d w) [
          | inl more ↦ inr more
          | inr (f, n, t) ↦ absurd (true≢false (sym named ∙ rw (f, n, t) unscripted))
        ]
      ])

  -- it is lost on its way instead, by a cause
  lost_now : (why : LossWhy) → IsLossCause loses ms (loss_of e to why) why →
      (is_scripted loses from e.entry.number to ≡ true → why ≡ Scripted) →
      IsSwept loses old before later ms (losses ++ loss_of e to why ∷ [])
  lost_now why cause named_so =
      let loss : Loss = loss_of e to why in
      let legal = legal_at ms is.placed from in
      let below = (numbers_below from (history (world_of ms) from) legal e sent_before.0).0 in
      record {
        grown = is.grown;
        placed = is.placed;
        makers = is.makers;
        balanced = balanced_lost node_of_sealed (length ms) (history (world_of ms)) (history (world_of ms)) losses waits
            later to e is.balanced loss refl refl refl takes (rising_sent from (history (world_of ms) from) legal);
        lost = is.lost ++ loss ∷ [];
        losses = rw (is.losses, append_assoc);
        licensed = All-push (IsLicensed loses ms) is.lost loss is.licensed
            (record { from = lf; to = lt; other = apart; number = below; cause = cause });
        once = once_push losses loss is.once sent_before.1;
        of_sent = All-push (λ (l : Loss). l.number < count_sent ms l.from) losses loss is.of_sent below;
        scripted = λ c k d lc ld differs low high named.
            elim (is.scripted c k d lc ld differs low high named) [
              | inl there ↦ inl (Contains-append_left losses (loss ∷ []) _ there)
              | inr w ↦ elim (waits_on c k d w) [
                | inl more ↦ inr more
                | inr (f, n, t) ↦ inl (rw (f, n, t, ← named_so (rw (f, n, t) at named))
                    (Contains-append_right losses (loss ∷ []) loss (Contains-head loss [])))
              ]
            ];
      }

  -- the sweep goes on whether the handed entry is heard or lost
  pub swept_handed : (m n : MachineState) (cause : Option LossWhy) → slice_get ms to ≡ Some m →
      IsFate (is_scripted loses from e.entry.number to) m e cause n →
      IsSwept loses old before later (slice_set ms to n) (losses ++ lost_by e to cause)
  swept_handed m n None stood (isnt, hears, same) = rw (same, append-nil) (heard_now m stood hears isnt)
  swept_handed m n (Some why) stood fate = let (same, cause, named_so) = by why fate in
      rw (same, set_same ms to m stood) (lost_now why cause named_so)
    where
      -- where a line of the script names the entry, that is the cause of its loss; other causes are those of a loss
      by : (why : LossWhy) → IsFate (is_scripted loses from e.entry.number to) m e (Some why) n →
          (n ≡ m) × IsLossCause loses ms (loss_of e to why) why ×
          (is_scripted loses from e.entry.number to ≡ true → why ≡ Scripted)
      by Scripted (named, same) = (same, named, λ s. refl)
      by LinkFull fate = absurd fate
      by ToStopped (isnt, has, same) =
          let at = is.placed to m stood in
          (same, (m, stood, stopped_there m at.machine at.unmarked has), λ s. absurd (true≢false (sym s ∙ isnt)))
      by LogFull (isnt, going, full, same) =
          (same, (m, stood, going_on m going, full), λ s. absurd (true≢false (sym s ∙ isnt)))
      by SameDigest (isnt, borne, same) =
          (same, (m, stood, (e, sent_before.0, refl, borne)), λ s. absurd (true≢false (sym s ∙ isnt)))

-- a machine that was handed an entry is made of the same, and sent as much
pub fate_keeps : (scripted : Bool) (m n : MachineState) (e : SealedEntry) (cause : Option LossWhy) →
    IsFate scripted m e cause n → (n.config ≡ m.config) × (length (sent n.events) ≡ length (sent m.events))
fate_keeps scripted m n e None (_, _, same) = rw same (refl, sent_as_many m.events e)
fate_keeps scripted m n e (Some Scripted) (_, same) = rw same (refl, refl)
fate_keeps scripted m n e (Some LinkFull) fate = absurd fate
fate_keeps scripted m n e (Some ToStopped) (_, _, same) = rw same (refl, refl)
fate_keeps scripted m n e (Some LogFull) (_, _, _, same) = rw same (refl, refl)
fate_keeps scripted m n e (Some SameDigest) (_, _, same) = rw same (refl, refl)

-- each number is still its place where the machine put there has the same configuration
pub numbered_set : (ms : List MachineState) (at : ℕ) (m n : MachineState) → slice_get ms at ≡ Some m →
    n.config ≡ m.config → AreNumbered ms → AreNumbered (slice_set ms at n)
numbered_set ms at m n stood same numbers place u is =
    elim (set_cases ms at place m n u stood is) [
      | inl s ↦ rw (← s.1, same, numbers at m stood) (sym s.0)
      | inr s ↦ numbers place u s
    ]

-- the sweep goes on as an entry that waits is handed to its machine
pub handed_on : (waits later : Waits) (old new : SweptFloor) (to : ℕ) (e : SealedEntry) → IsNumbered old →
    e.entry.maker < length old.machines.items → to < length old.machines.items → e.entry.maker ≢ to →
    ((c d : ℕ) → waits c d ≡ only_if ((to == d) && (e.entry.maker == c)) e ++ later c d) → IsHanded to e old new →
    SweepsOn waits old later new
handed_on waits later old new to e is from_within to_within apart takes hands =
    let ms = old.machines.items in
    let len = length_set ms to hands.then_machine in
    record {
      numbered = record {
        few = rw (hands.changed, len) is.few;
        numbers = rw hands.changed (numbered_set ms to hands.machine hands.then_machine hands.stood
            (fate_keeps _ hands.machine hands.then_machine e hands.cause hands.fate).0 is.numbers);
      };
      count = rw (hands.changed, len);
      loses = hands.loses;
      swept = λ first before swept.
          rw (hands.loses, hands.changed, hands.losses)
          (swept_handed old.loses.now first before waits later ms old.losses.items swept to e from_within to_within
          apart takes hands.machine hands.then_machine hands.cause hands.stood hands.fate);
    }

-- one step of a sweep after another
pub then_on : (waits middle later : Waits) (old between new : SweptFloor) → SweepsOn waits old middle between →
    SweepsOn middle between later new → SweepsOn waits old later new
then_on waits middle later old between new first second = record {
  numbered = second.numbered;
  count = second.count ∙ first.count;
  loses = second.loses ∙ first.loses;
  swept = λ begun before swept. second.swept begun before (first.swept begun before swept);
}

-- a sweep that does nothing
pub none_on : (waits : Waits) (floor : SweptFloor) → IsNumbered floor → SweepsOn waits floor waits floor
none_on waits floor numbered = record {
  numbered = numbered;
  count = refl;
  loses = refl;
  swept = λ first before swept. swept;
}

-- on each way between machines the same waits
pub same_on : (begun waits others : Waits) (old new : SweptFloor) →
    ((c d : ℕ) → c < length new.machines.items → d < length new.machines.items → c ≢ d → others c d ≡ waits c d) →
    SweepsOn begun old waits new → SweepsOn begun old others new
same_on begun waits others old new same on = record {
  numbered = on.numbered;
  count = on.count;
  loses = on.loses;
  swept = λ first before swept.
      let is = on.swept first before swept in
      record {
        grown = is.grown;
        placed = is.placed;
        makers = is.makers;
        balanced = λ a b la lb apart. rw (same a b la lb apart) (is.balanced a b la lb apart);
        lost = is.lost;
        losses = is.losses;
        licensed = is.licensed;
        once = is.once;
        of_sent = is.of_sent;
        scripted = λ c number d lc ld differs low high named.
            rw (same c d lc ld differs) (is.scripted c number d lc ld differs low high named);
      };
}
