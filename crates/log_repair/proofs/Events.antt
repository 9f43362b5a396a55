-- A step that is taken adds one event to one machine.
use Rattle.log_repair.proofs.Imports.{◌≡◌, ◌≢◌, ◌⊎◌, ℕ, zero, suc, ◌+◌, ◌<◌, ◌==◌, arith, Bool, true, false, List, []}
use Rattle.log_repair.proofs.Imports.{◌∷◌, length, Option, Some, None, refl, ap, inl, inr, slice_get, if◌then◌else◌}
use Rattle.log_repair.proofs.Imports.{leb-false, or_parts, length-append, Event, Sent, Got, Step, Act, Hear, Stop, Node}
use Rattle.log_repair.proofs.Imports.{sent, Machine, World, append, cannot_hear, happens, hear, history, send}
use Rattle.log_repair.proofs.Imports.{with_machine, SendsWithRoom, IsOrderly, IsOrderly-play, AddsEvent, room, total}
use Rattle.log_repair.proofs.Imports.{sent_in, IsStepOf, append-nil, sent-append}

-- a machine is as it was, or has one event more, and P is so of that and the machine before
abbrev pub Gets : {T : Type 0} → (Event T → Machine T → Type 0) → Machine T → Machine T → Type 0
Gets {T} P old new = (new ≡ old) ⊎ ((x : Event T) × (new ≡ append x old) × P x old)

-- one machine of the world has one event more
record OneMore {T : Type 0} (P : Event T → Machine T → Type 0) (log at : ℕ) (old new : World T) : Type 0 where
  event : Event T
  before : Machine T
  so : P event before
  within : at < length old
  total : total new ≡ 1 + total old
  room : length before.history < log → 1 + room log new ≡ room log old
  sends : sent (event ∷ []) ≡ [] → sent_in new ≡ sent_in old

one_more : {T : Type 0} (P : Event T → Machine T → Type 0) (log : ℕ) (change : Machine T → Machine T) →
    ((a : Machine T) → Gets P a (change a)) → (at : ℕ) (w : World T) →
    (with_machine at change w ≡ w) ⊎ OneMore P log at w (with_machine at change w)
one_more P log change each at [] = inl refl
one_more {T} P log change each zero (a ∷ w) =
    elim (each a) [
      | inl same ↦ inl (rw same)
      | inr (x, is, so) ↦
          let long : length (change a).history ≡ length a.history + 1 = rw (is, length-append) in
          inr (record {
            event = x;
            before = a;
            so = so;
            within = omega arith;
            total = omega (arith, long);
            room = λ low. omega (arith, long);
            sends = λ none. rw (is, sent-append, none, append-nil);
          })
    ]
one_more {T} P log change each (suc at) (a ∷ w) =
    elim (one_more P log change each at w) [
      | inl same ↦ inl (ap (λ (v : World T). a ∷ v) same)
      | inr more ↦ inr (record {
        event = more.event;
        before = more.before;
        so = more.so;
        within = omega (arith, more.within);
        total = omega (arith, more.total);
        room = λ low. omega (arith, more.room low);
        sends = λ none. rw (more.sends none);
      })
    ]

-- a machine with a number among what it sent is in the world
pub sender_within : {T : Type 0} (w : World T) (from number : ℕ) (e : T) →
    slice_get (sent (history w from)) number ≡ Some e → from < length w
sender_within [] from number e is = cc
sender_within (a ∷ w) zero number e is = omega arith
sender_within (a ∷ w) (suc from) number e is = omega (arith, sender_within w from number e is)

module _ {T : Type 0} (node : T → Node) (log : ℕ) where
  -- what a machine hears is what it is given, and it has room
  abbrev pub IsHeard : Option T → Event T → Machine T → Type 0
  IsHeard o x a = (e : T) × (o ≡ Some e) × (x ≡ Got e) × (length a.history < log)

  pub hear_gets : (o : Option T) (a : Machine T) → Gets (IsHeard o) a (hear node log o a)
  hear_gets None a = inl refl
  hear_gets (Some e) a = by (cannot_hear node log a (node e).digest) refl
    where
      by : (b : Bool) → cannot_hear node log a (node e).digest ≡ b →
          Gets (IsHeard (Some e)) a (if b then a else append (Got e) a)
      by true is = inl refl
      by false is = inr (Got e, refl, (e, refl, refl, leb-false log (length a.history) (or_parts _ _ is).1))

module _ {T : Type 0} (next : ℕ → List (Event T) → Option T) (m : ℕ) where
  -- what a machine sends is what it may
  abbrev pub IsSent : Event T → Machine T → Type 0
  IsSent x a = (e : T) × (next m a.history ≡ Some e)

  pub send_gets : (o : Option T) (a : Machine T) → next m a.history ≡ o → Gets IsSent a (send o a)
  send_gets None a is = inl refl
  send_gets (Some e) a is =
      elim a.stopped as (λ b. Gets IsSent a (if b then a else append (Sent e) a)) [
        | true ↦ inl refl
        | false ↦ inr (Sent e, refl, (e, is))
      ]

module _ {T : Type 0} (node : T → Node) (next : ℕ → List (Event T) → Option T) (log : ℕ) where
  -- an entry that was sent was heard
  pub record Heard (w : World T) (s : Step) : Type 0 where
    pub total : total (happens node next log w s) ≡ 1 + total w
    pub room : 1 + room log (happens node next log w s) ≡ room log w
    pub sends : sent_in (happens node next log w s) ≡ sent_in w
    pub of : IsStepOf (length w) s
    pub orderly : IsOrderly node w → IsOrderly node (happens node next log w s)

  pub hear_more : (at from number : ℕ) (w : World T) → (happens node next log w (Hear at from number) ≡ w)
      ⊎ Heard w (Hear at from number)
  hear_more at from number w =
      elim (by (at == from)) [
        | inl same ↦ inl same
        | inr more ↦
            let (e, there, got, low) = more.so in
            inr (record {
              total = more.total;
              room = more.room low;
              sends = more.sends (rw got);
              of = (more.within, sender_within w from number e there);
              orderly = IsOrderly-play node (λ m h. None) log (λ m h f none. absurd (cc none)) w
                  (Hear at from number ∷ []);
            })
      ]
    where
      o : Option T
      o = slice_get (sent (history w from)) number

      by : (b : Bool) → let v = if b then w else with_machine at (hear node log o) w in
          (v ≡ w) ⊎ OneMore (IsHeard node log o) log at w v
      by true = inl refl
      by false = one_more (IsHeard node log o) log (hear node log o) (hear_gets node log o) at w

  -- a step that adds an event changes the world, or doesn't
  pub step_moves : (s : Step) → AddsEvent s → (w : World T) → (happens node next log w s ≡ w)
      ⊎ ((total (happens node next log w s) ≡ 1 + total w)
      × (SendsWithRoom next log → 1 + room log (happens node next log w s) ≡ room log w))
  step_moves (Act m) adds w =
      elim (one_more (IsSent next m) log (λ a. send (next m a.history) a)
      (λ a. send_gets next m (next m a.history) a refl) m w) [
        | inl same ↦ inl same
        | inr more ↦ inr (more.total, λ fits. more.room (fits m more.before.history more.so.0 more.so.1))
      ]
  step_moves (Hear at from number) adds w =
      elim (hear_more at from number w) [ inl same ↦ inl same | inr heard ↦ inr (heard.total, λ fits. heard.room) ]
  step_moves (Stop m) adds w = absurd adds

  -- so is each that changes something
  pub heard_if : (at from number : ℕ) (w : World T) → happens node next log w (Hear at from number) ≢ w →
      Heard w (Hear at from number)
  heard_if at from number w differ =
      elim (hear_more at from number w) [ inl same ↦ absurd (differ same) | inr heard ↦ heard ]

  -- the logs have room for one event less
  abbrev pub FillsRoom : World T → Step → Type 0
  FillsRoom w s = 1 + room log (happens node next log w s) ≡ room log w

  pub fills_if : SendsWithRoom next log → (s : Step) → AddsEvent s → (w : World T) → happens node next log w s ≢ w →
      FillsRoom w s
  fills_if fits s adds w differ =
      elim (step_moves s adds w) [ inl same ↦ absurd (differ same) | inr (_, less) ↦ less fits ]
