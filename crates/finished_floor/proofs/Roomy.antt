-- Where there is room for all, no line loses or stops, and digests differ, nothing is lost.
use Rattle.finished_floor.proofs.Counts.{different_few, held_different, rising_few}
use Rattle.finished_floor.proofs.{Grown.are_placed, Grown.config_is, Heard.not_held}
use Rattle.finished_floor.proofs.Imports.{[], All-contains, ap, AreMachinesOf, ArePlaced, arith, Cast0, Config}
use Rattle.finished_floor.proofs.Imports.{Contains, Contains-cons_cases, Contains-head, Contains-map_cases}
use Rattle.finished_floor.proofs.Imports.{Contains-none, Contains-sent_cases, entry_of, Event, flat_map}
use Rattle.finished_floor.proofs.Imports.{get_or_from_slice_get, Got, held, history, history_there, inl, inr}
use Rattle.finished_floor.proofs.Imports.{is_kept_off, IsCauseOf, IsGotOrLost, IsMachine, IsOnWay, IsOrderly, IsStopOf}
use Rattle.finished_floor.proofs.Imports.{length, length-append, length-map, LinkFull, List, LogFull, LosesNothing}
use Rattle.finished_floor.proofs.Imports.{Loss, LossWhy, MachineState, node_of_sealed, None, not, nth_split, Option}
use Rattle.finished_floor.proofs.Imports.{put_before, refl, SameDigest, Script, Scripted, SealedEntry, Sent, sent}
use Rattle.finished_floor.proofs.Imports.{sent_in, sent_in_from, slice_get, slice_get_cases, slice_get_within, Some}
use Rattle.finished_floor.proofs.Imports.{suc, sym, ToStopped, true≢false, world_of, zero, ℕ, ◌∙◌, ◌∷◌, ◌≡◌, ◌≤◌}
use Rattle.finished_floor.proofs.{Numbers.number_at, Places.get_within, Places.legal_at}
use Rattle.std.specs.Prelude.{All}

-- a machine sent no more entries than it has actions
sent_at_most : (m : MachineState) → IsMachine m → length (sent m.events) ≤ length m.config.actions
sent_at_most m machine = by (length (sent m.events)) refl
  where
    -- the last of them stands for an action
    by : (n : ℕ) → length (sent m.events) ≡ n → n ≤ length m.config.actions
    by zero count = omega arith
    by (suc n) count =
        elim ((slice_get_cases (sent m.events) n).1) [
          | inl (e, _, is, _) ↦ (let (front, back, parts, before) = nth_split m.events n e is in
              let may = machine.sent front e back parts in
              let k = slice_get_within m.config.actions (length (sent front)) may.deed may.action in
              omega (arith, before))
          | inr none ↦ (let k = none.0 in absurd (omega arith))
        ]

-- no more entries were sent than there are actions in all
sent_in_most : (ms : List MachineState) (casts : List Cast0) → length ms ≡ length casts →
    ((k : ℕ) (m : MachineState) (cast : Cast0) → slice_get ms k ≡ Some m → slice_get casts k ≡ Some cast →
    length (sent m.events) ≤ length cast.actions) →
    length (sent_in (world_of ms)) ≤ length (flat_map (λ (cast : Cast0). cast.actions) casts)
sent_in_most [] [] many each = omega arith
sent_in_most [] (cast ∷ casts) many each = absurd (omega arith)
sent_in_most (m ∷ ms) [] many each = absurd (omega arith)
sent_in_most (m ∷ ms) (cast ∷ casts) many each =
    let first = each zero m cast refl refl in
    let rest = sent_in_most ms casts (omega arith) (λ k u c is at. each (suc k) u c is at) in
    let a = length-append (sent m.events) (sent_in (world_of ms)) in
    let b = length-append cast.actions (flat_map (λ (cast : Cast0). cast.actions) casts) in
    omega arith

-- what a machine holds was sent
pub held_sent : (ms : List MachineState) → IsOrderly node_of_sealed (world_of ms) → (k : ℕ) (m : MachineState) →
    slice_get ms k ≡ Some m → (e : SealedEntry) → Contains (held m.events) e → Contains (sent_in (world_of ms)) e
held_sent ms orderly k m is e c =
    let (event, inside, same) = Contains-map_cases entry_of m.events e c in
    rw same at (by event (rw (history_there ms k m is) inside))
  where
    -- what it sent is among all that was sent, and so is what it got
    by : (x : Event SealedEntry) → Contains (history (world_of ms) k) x → Contains (sent_in (world_of ms)) (entry_of x)
    by (Sent f) at = sent_in_from (world_of ms) k f at
    by (Got f) at = orderly.heard k f at

module _ (script : Script) (ms : List MachineState) (of : AreMachinesOf script ms)
    (orderly : IsOrderly node_of_sealed (world_of ms)) (told : List Loss)
    (each : IsGotOrLost ms told) (only : All (IsOnWay ms) told)
    (causes : All (λ loss. IsCauseOf script ms told loss loss.why) told) where
  -- each of the machines has its place
  placed : ArePlaced ms
  placed = are_placed script ms of

  -- each machine sent no more entries than its cast has actions
  sent_few : (k : ℕ) (m : MachineState) (cast : Cast0) → slice_get ms k ≡ Some m →
      slice_get script.machines k ≡ Some cast → length (sent m.events) ≤ length cast.actions
  sent_few k m cast is at =
      let (own, own_is, made) = config_is script k m (of.each k m is) in
      let same : own ≡ cast = let a = own_is in cc in
      rw (ap (λ (c : Config). c.actions) made, same) at (sent_at_most m (placed k m is).machine)

  -- a link that holds as many as any machine has actions isn't full
  not_full : All (λ (cast : Cast0). length cast.actions ≤ script.link) script.machines → (l : Loss) → IsOnWay ms l →
      script.link ≤ length (put_before ms told l.from l.number l.to) → ⊥
  not_full links l way full =
      let (m, there) = get_within ms l.from way.from in
      let (cast, is, made) = config_is script l.from m (of.each l.from m there) in
      let count = ap (λ h. length (sent h)) (history_there ms l.from m there) in
      let below = sent_few l.from m cast there is in
      let room = All-contains (λ (cast : Cast0). length cast.actions ≤ script.link) script.machines cast links
      (l.from, slice_get_within script.machines l.from cast is, get_or_from_slice_get script.machines l.from cast cast is) in
      let few = rising_few (λ (e : SealedEntry). e.entry.number)
      (λ e. not (is_kept_off told l.from e.entry.number l.to)) l.number 0 (sent (history (world_of ms) l.from))
      (λ i e is. omega (arith, (number_at l.from _ (legal_at ms placed l.from) i e is).0)) in
      let n = way.number in
      omega arith

  -- a log that has room for all actions isn't full
  not_all : length (flat_map (λ (cast : Cast0). cast.actions) script.machines) ≤ script.log → (l : Loss) →
      Contains told l → (m : MachineState) → slice_get ms l.to ≡ Some m → length m.events ≡ script.log → ⊥
  not_all logs l c m is full =
      let way = All-contains (IsOnWay ms) told l only c in
      let es = sent (history (world_of ms) l.from) in
      let n = way.number in
      elim ((slice_get_cases es l.number).1) [
        | inl (e, within, is_e, _) ↦ (let was_sent : Contains es e =
            (l.number, within, get_or_from_slice_get es l.number e e is_e) in
            let numbered = (number_at l.from _ (legal_at ms placed l.from) l.number e is_e).0 in
            let missing = not_held ms placed told each only l c m is e was_sent numbered in
            let few = different_few (e ∷ held m.events) (sent_in (world_of ms))
            (missing, held_different node_of_sealed m.config.number m.events (placed l.to m is).machine.legal)
            (λ f there. elim (Contains-cons_cases e (held m.events) f there) [
              | inl same ↦ rw same at (sent_in_from (world_of ms) l.from e (Contains-sent_cases _ e was_sent))
              | inr h ↦ held_sent ms orderly l.to m is f h
            ]) in
            let all = sent_in_most ms script.machines of.count sent_few in
            let many = length-map m.events entry_of in
            omega arith)
        | inr none ↦ (let k = none.0 in absurd (omega arith))
      ]

  -- nothing is lost with room for all, no losses or stops in the script, and distinct digests
  pub loses_nothing : LosesNothing script ms told
  loses_nothing links logs no_loses no_stops distinct =
      none_in told (λ l c. by l c l.why (All-contains (λ (loss : Loss). IsCauseOf script ms told loss loss.why) told l
      causes c))
    where
      -- a list without members is empty
      none_in : (xs : List Loss) → ((l : Loss) → Contains xs l → ⊥) → xs ≡ []
      none_in [] none = refl
      none_in (x ∷ xs) none = absurd (none x (Contains-head x xs))

      -- where the script has no stop line, no machine has a stop
      no_stop : (place : ℕ) (stop : Option ℕ) (k : ℕ) → IsStopOf [] place stop → stop ≡ Some k → ⊥
      no_stop place None k is stops = cc
      no_stop place (Some n) k is stops = Contains-none _ is

      -- where there is room for all, a loss can have none of the causes
      by : (l : Loss) → Contains told l → (why : LossWhy) → IsCauseOf script ms told l why → ⊥
      by l c Scripted cause = true≢false (sym cause ∙ rw no_loses)
      by l c LinkFull cause = not_full links l (All-contains (IsOnWay ms) told l only c) cause.1
      by l c ToStopped (m, there, stopped) =
          no_stop l.to m.stop (length m.events) (rw no_stops at (of.each l.to m there).stop) stopped
      by l c LogFull (m, there, unstopped, full) = not_all logs l c m there full
      by l c SameDigest (m, there, h) =
          h.differs (distinct h.other h.entry (held_sent ms orderly l.to m there h.other h.is_held)
          (sent_in_from (world_of ms) l.from h.entry (Contains-sent_cases _ h.entry h.was_sent)) h.same)
