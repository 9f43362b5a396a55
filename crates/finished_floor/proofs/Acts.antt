-- What a sweep keeps when a machine does its next action, and what is known where it doesn't.
use Rattle.polling_world.specs.declared.acted.Acted.TheVariants as acted
use Rattle.finished_floor.proofs.{Events.count_event, Events.swept_event, Handed.numbered_set}
use Rattle.finished_floor.proofs.Imports.{[], Acted, actions_left, All-replicate, All-weaker, ap, AreNumbered}
use Rattle.finished_floor.proofs.Imports.{AreOfSent, arith, Bool, cases_lt, Contains-head, Contains-none, count_sent}
use Rattle.finished_floor.proofs.Imports.{did, eqb-true, false, Global, history, history_there, inl, inr, is_lost}
use Rattle.finished_floor.proofs.Imports.{is_of, IsActed, IsDone, IsStillAt, IsSwept, IsWaiting, length, List}
use Rattle.finished_floor.proofs.Imports.{list_any_none, Lose, Loss, MachineState, may_follow, nat_tests, no_waits}
use Rattle.finished_floor.proofs.Imports.{node_of_sealed, one_at, refl, SealedEntry, Sent, sent, set_same, slice_get}
use Rattle.finished_floor.proofs.Imports.{slice_set, Some, sym, true, true≢false, Vec, waits_from, world_of, ℕ, ◌+◌}
use Rattle.finished_floor.proofs.Imports.{◌<◌, ◌==◌, ◌∙◌, ◌≡◌, ◌≤◌}
use Rattle.finished_floor.proofs.{Left.left_done, Lists.only_if, Places.history_event, Sweeps.balanced_sent}
use Rattle.std.specs.Prelude.{All}

-- what wasn't sent yet isn't lost
fresh_of : (ms : List MachineState) (losses : List Loss) (from number to : ℕ) → AreOfSent ms losses →
    count_sent ms from ≤ number → is_lost losses from number to ≡ false
fresh_of ms losses from number to of high =
    list_any_none (is_of from number to) losses (All-weaker (λ (l : Loss). l.number < count_sent ms l.from)
    (λ l. is_of from number to l ≡ false) (λ l lt. by (count_sent ms) l lt high) losses of)
  where
    -- no loss of an entry that was sent is of one with a greater number
    by : (count : ℕ → ℕ) (l : Loss) → l.number < count l.from → count from ≤ number → is_of from number to l ≡ false
    by count l lt high = grind (arith, nat_tests)

-- a new entry waits for each machine, and no other does
waits_new : (at : ℕ) (e : SealedEntry) (c d : ℕ) → waits_from at e 0 c d ≡ only_if (at == c) e
waits_new at e c d = grind (arith, nat_tests)

-- the machine sends its entry, which then waits for each other
pub swept_sent : (loses : List Lose) (old : List MachineState) (before : List Loss) (ms : List MachineState)
    (losses : List Loss) (is : IsSwept loses old before no_waits ms losses) (at : ℕ) (m : MachineState)
    (stood : slice_get ms at ≡ Some m) (receivers number : ℕ) (copies : List SealedEntry) (new : MachineState)
    (done : IsDone m receivers number copies new) →
    IsSwept loses old before (waits_from at done.entry 0) (slice_set ms at new) losses
swept_sent loses old before ms losses is at m stood receivers number copies new done =
    let e = done.entry in
    let follows = may_follow m.config m.events e done.may in
    let number_is : e.entry.number ≡ count_sent ms at =
    follows.1.number ∙ ap (λ h. length (sent h)) (sym (history_there ms at m stood)) in
    rw done.changed (swept_event ms at m (Sent e) stood done.going done.may.room loses old before no_waits
    (waits_from at e 0) losses is follows (λ f s. rw (← sent_same e f s) done.may) (λ f s. cc)
    (balanced_sent node_of_sealed (length ms) (history (world_of ms)) _ losses no_waits (waits_from at e 0) at e
    is.balanced (history_event ms at m (Sent e) stood) (waits_new at e)
    (λ d. fresh_of ms losses at e.entry.number d is.of_sent (omega arith)))
    (λ c k d lc ld differs low high named. elim (cases_lt k (count_sent ms c)) [
      | inl lt ↦ elim (is.scripted c k d lc ld differs low lt named) [
        | inl there ↦ inl there
        | inr w ↦ absurd (Contains-none w.0 w.1)
      ]
      | inr ge ↦ inr (by c d (at == c) refl k number_is ge (rw (count_event ms at m (Sent e) stood c) at high))
    ]))
  where
    -- events that are one send one entry
    sent_same : (e f : SealedEntry) → Sent e ≡ Sent f → e ≡ f
    sent_same e f s = cc

    -- what was sent since is the entry, and it waits
    by : (c d : ℕ) (b : Bool) → (at == c) ≡ b → (k : ℕ) → done.entry.entry.number ≡ count_sent ms at →
        count_sent ms c ≤ k → k < count_sent ms c + length (sent (only_if b (Sent done.entry))) →
        IsWaiting (waits_from at done.entry 0) c k d
    by c d true is k number ge high =
        let count = ap (count_sent ms) (eqb-true at c is) in
        (done.entry, rw (waits_new at done.entry c d, is) (Contains-head done.entry []), omega arith)
    by c d false is k number ge high = absurd (omega arith)

module _ (ms : List MachineState) (at : ℕ) (m : MachineState) (stood : slice_get ms at ≡ Some m)
    (receivers number : ℕ) (copies : List SealedEntry) (new : MachineState)
    (done : IsDone m receivers number copies new) (numbers : AreNumbered ms) where
  -- the copies are of its entry
  pub copies_same : All (λ (x : SealedEntry). x ≡ done.entry) copies
  copies_same = rw done.copied (All-replicate (λ (x : SealedEntry). x ≡ done.entry) receivers done.entry refl)

  -- its maker is the machine
  pub maker_at : done.entry.entry.maker ≡ at
  maker_at = (may_follow m.config m.events done.entry done.may).1.maker ∙ numbers at m stood

  -- each copy has the machine at the place as maker
  pub copies_makers : All (λ (x : SealedEntry). x.entry.maker ≡ at) copies
  copies_makers =
      rw done.copied (All-replicate (λ (x : SealedEntry). x.entry.maker ≡ at) receivers done.entry maker_at)

  -- each machine still has its place as its number
  pub sent_numbered : AreNumbered (slice_set ms at new)
  sent_numbered = numbered_set ms at m new stood (rw done.changed) numbers

  -- fewer actions are left after one was done
  pub sent_left : actions_left (slice_set ms at new) < actions_left ms
  sent_left = rw done.changed (left_done ms at m done.entry stood done.may)

-- a machine that didn't act is as it was
pub not_done : (m n : MachineState) (receivers : ℕ) (answer : Acted) → IsActed m receivers answer n →
    did answer ≡ false → n ≡ m
not_done m n receivers (acted.Did number copies) is none = absurd (true≢false none)
not_done m n receivers acted.Stopped (_, same) none = same
not_done m n receivers acted.NoMore (_, _, same) none = same
not_done m n receivers (acted.SupervisorNot cause) (_, same) none = same
not_done m n receivers (acted.BoothNot cause) (_, same) none = same
not_done m n receivers acted.Full (_, same) none = same
not_done m n receivers acted.StampSpent (_, same) none = same
not_done m n receivers acted.Spent (_, same) none = same
not_done m n receivers acted.SameDigest (_, same) none = same

-- if the machine at a place did not act, the machine there is still, and all machines are as they
-- were
pub still_at : (ms : List MachineState) (at : ℕ) (m n : MachineState) (receivers : ℕ) (answer : Acted) →
    slice_get ms at ≡ Some m → IsActed m receivers answer n → did answer ≡ false →
    IsStillAt ms at × (slice_set ms at n ≡ ms)
still_at ms at m n receivers answer stood is none =
    let same = not_done m n receivers answer is none in (
      λ u there. rw (← one_at ms at m u stood there) (receivers, answer, rw same at is, none),
      rw same (set_same ms at m stood),
    )

-- an answer that isn't `Did` says that nothing was done
pub not_did : (answer : Acted) →
    ((number : ℕ) (copies : Vec SealedEntry Global) → answer ≡ acted.Did number copies → ⊥) → did answer ≡ false
not_did (acted.Did number copies) isnt = absurd (isnt number copies refl)
not_did acted.Stopped isnt = refl
not_did acted.NoMore isnt = refl
not_did (acted.SupervisorNot cause) isnt = refl
not_did (acted.BoothNot cause) isnt = refl
not_did acted.Full isnt = refl
not_did acted.StampSpent isnt = refl
not_did acted.Spent isnt = refl
not_did acted.SameDigest isnt = refl
