-- What stays true of machines when one of them has one event more.
use Rattle.finished_floor.proofs.Imports.{[], All-weaker, ap, append_assoc, arith, Bool, cases_eq, Contains}
use Rattle.finished_floor.proofs.Imports.{Contains-append_left, Contains-push_cases, count_sent, entry_of, Event, Got}
use Rattle.finished_floor.proofs.Imports.{held, history, inl, inr, is_reached, is_scripted, IsBalanced, IsGoing}
use Rattle.finished_floor.proofs.Imports.{IsLicensed, IsLossCause, IsMachine-event, IsSwept, IsTrue, IsWaiting, le-leb}
use Rattle.finished_floor.proofs.Imports.{length, length-append, LinkFull, List, LogFull, Lose, Loss, LossWhy}
use Rattle.finished_floor.proofs.Imports.{MachineState, map-append, MayFollow, MaySend, node_of_sealed, not, one_at}
use Rattle.finished_floor.proofs.Imports.{SameDigest, Scripted, SealedEntry, Sent, sent, sent-append, set_cases}
use Rattle.finished_floor.proofs.Imports.{set_get, slice_get, slice_set, Some, sym, ToStopped, true, Waits, with_event}
use Rattle.finished_floor.proofs.Imports.{world_of, ℕ, ◌++◌, ◌+◌, ◌<◌, ◌==◌, ◌||◌, ◌∙◌, ◌∷◌, ◌≡◌, ◌≢◌, ◌≤◌, ◌⊎◌}
use Rattle.finished_floor.proofs.{Lists.only_if, Places.get_others, Places.history_event, Places.length_set}

-- what was held is still held
pub held_more : (h : List (Event SealedEntry)) (x : Event SealedEntry) (g : SealedEntry) → Contains (held h) g →
    Contains (held (h ++ x ∷ [])) g
held_more h x g c = rw (map-append entry_of h (x ∷ [])) (Contains-append_left (held h) (held (x ∷ [])) g c)

-- a machine that goes on isn't where it is to stop
pub going_on : (m : MachineState) → IsGoing m → m.stop ≢ Some (length m.events)
going_on m going at = by m.marked (is_reached m.stop (length m.events)) going (rw at (le-leb _ _ (omega arith)))
  where
    -- what has reached its stop doesn't go on
    by : (marked reached : Bool) → IsTrue (not (marked || reached)) → reached ≡ true → ⊥
    by marked reached going has = grind arith

-- a machine with one event more
module _ (ms : List MachineState) (at : ℕ) (m : MachineState) (x : Event SealedEntry)
    (stood : slice_get ms at ≡ Some m) where
  -- the machines once this one has the event
  abbrev after : List MachineState
  after = slice_set ms at (with_event x m)

  -- what was sent since
  abbrev pub sent_since : ℕ → List SealedEntry
  sent_since k = sent (only_if (at == k) x)

  -- comes after what was sent before
  pub sent_event : (k : ℕ) → sent (history (world_of after) k) ≡ sent (history (world_of ms) k) ++ sent_since k
  sent_event k = ap sent (history_event ms at m x stood k) ∙ sent-append (history (world_of ms) k) _

  -- an event leaves no machine with fewer sent entries
  pub count_event : (k : ℕ) → count_sent after k ≡ count_sent ms k + length (sent_since k)
  count_event k = ap length (sent_event k) ∙ length-append (sent (history (world_of ms) k)) _

  module _ (going : IsGoing m) (room : length m.events < m.config.log) where
    -- the machine that a loss names has all that it had, and another event only if it isn't full and goes on
    still_there : (k : ℕ) (n : MachineState) → slice_get ms k ≡ Some n →
        (slice_get after k ≡ Some n) ⊎ ((n ≡ m) × (slice_get after k ≡ Some (with_event x m)))
    still_there k n is =
        elim (cases_eq k at) [
          | inl s ↦ inr (one_at ms k n m is (rw s stood), rw s (set_get ms at m (with_event x m) stood))
          | inr differs ↦ inl (get_others ms at k (with_event x m) differs ∙ is)
        ]

    -- a cause stays
    cause_event : (loses : List Lose) (loss : Loss) (why : LossWhy) → IsLossCause loses ms loss why →
        IsLossCause loses after loss why
    cause_event loses loss Scripted cause = cause
    cause_event loses loss LinkFull cause = cause
    cause_event loses loss ToStopped (to, stands, stops) =
        elim (still_there loss.to to stands) [
          | inl same ↦ (to, same, stops)
          | inr (one, _) ↦ absurd (going_on m going (rw one at stops))
        ]
    cause_event loses loss LogFull (to, stands, goes, fills) =
        elim (still_there loss.to to stands) [
          | inl same ↦ (to, same, goes, fills)
          | inr (one, _) ↦ absurd (let full = rw one at fills in omega arith)
        ]
    cause_event loses loss SameDigest (to, stands, (e, was_sent, numbered, (g, in_h, is))) =
        let still : Contains (sent (history (world_of after) loss.from)) e =
        rw (sent_event loss.from) (Contains-append_left _ (sent_since loss.from) e was_sent) in
        elim (still_there loss.to to stands) [
          | inl same ↦ (to, same, (e, still, numbered, (g, in_h, is)))
          | inr (one, now) ↦
              (with_event x m, now, (e, still, numbered, (g, held_more m.events x g (rw one at in_h), is)))
        ]

    module _ (loses : List Lose) (old : List MachineState) (before : List Loss) (waits later : Waits)
        (losses : List Loss) (is : IsSwept loses old before waits ms losses) where
      -- a sweep goes on where a machine has one event more, if all is still accounted for
      pub swept_event : MayFollow node_of_sealed m.config.number m.events x →
          ((e : SealedEntry) → x ≡ Sent e → MaySend m.config m.events e) →
          ((e : SealedEntry) → x ≡ Got e → e.entry.maker < length ms) →
          IsBalanced node_of_sealed (length ms) (history (world_of after)) losses later →
          ((from number to : ℕ) → from < length ms → to < length ms → from ≢ to → count_sent old from ≤ number →
          number < count_sent after from → is_scripted loses from number to ≡ true →
          Contains losses (record { from = from; number = number; to = to; why = Scripted })
          ⊎ IsWaiting later from number to) → IsSwept loses old before later after losses
      swept_event may send new balanced scripted =
          let len = length_set ms at (with_event x m) in record {
            grown = record {
              count = len ∙ is.grown.count;
              each = λ place a n was there. elim (set_cases ms at place m (with_event x m) n stood there) [
                | inl s ↦ (let g = is.grown.each place a m was (rw s.0 stood) in rw (← s.1) (record {
                  config = g.config;
                  stop = g.stop;
                  later = g.later ++ x ∷ [];
                  events = ap (λ (h : List (Event SealedEntry)). h ++ x ∷ []) g.events
                      ∙ append_assoc a.events g.later (x ∷ []);
                }))
                | inr s ↦ is.grown.each place a n was s
              ];
            };
            placed = λ place n there. elim (set_cases ms at place m (with_event x m) n stood there) [
              | inl s ↦ (let was = is.placed at m stood in rw (← s.1) (record {
                number = was.number ∙ sym s.0;
                machine = IsMachine-event m x was.machine going room may send;
                unmarked = was.unmarked;
              }))
              | inr s ↦ is.placed place n s
            ];
            makers = λ had place n e there c. rw len (elim (set_cases ms at place m (with_event x m) n stood there) [
              | inl s ↦ elim (Contains-push_cases m.events x (Got e) (rw (← s.1) at c)) [
                | inl was ↦ is.makers had at m e stood was
                | inr same ↦ new e same
              ]
              | inr s ↦ is.makers had place n e s c
            ]);
            balanced = rw len balanced;
            lost = is.lost;
            losses = is.losses;
            licensed = All-weaker (IsLicensed loses ms) (IsLicensed loses after)
                (λ l of. let c = count_event l.from in let a = of.from in let b = of.to in let k = of.number in record {
                  from = omega arith;
                  to = omega arith;
                  other = of.other;
                  number = omega arith;
                  cause = cause_event loses l l.why of.cause;
                }) is.lost is.licensed;
            once = is.once;
            of_sent = All-weaker (λ (l : Loss). l.number < count_sent ms l.from)
                (λ (l : Loss). l.number < count_sent after l.from) (λ l lt. let c = count_event l.from in omega arith)
                losses is.of_sent;
            scripted = λ c k d lc ld. scripted c k d (omega arith) (omega arith);
          }
