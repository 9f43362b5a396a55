-- The ticks of a history's events, and how they grow.
use Rattle.machine_floor.proofs.Imports.{◌≡◌, ℕ, suc, ◌+◌, List, [], ◌∷◌, ◌++◌, length, refl, sym, ap, ◌∙◌, arith, All}
use Rattle.machine_floor.proofs.Imports.{SealedEntry, Event, pass_of, Tick, IsStation, StationState, ticks_from}
use Rattle.machine_floor.proofs.Imports.{add-zero, append_assoc, append-nil, All-push}

-- one tick more
ticks_push : (place : ℕ) (h : List (Event SealedEntry)) (x : Event SealedEntry) →
    ticks_from place (h ++ x ∷ []) ≡ ticks_from place h ++ record { pass = pass_of x; what = place + length h } ∷ []
ticks_push place [] x = ap (λ n. record { pass = pass_of x; what = n } ∷ []) (sym (add-zero place))
ticks_push place (y ∷ h) x =
    ap (λ l. record { pass = pass_of y; what = place } ∷ l)
    (ticks_push (place + 1) h x
    ∙ ap (λ n. ticks_from (place + 1) h ++ record { pass = pass_of x; what = n } ∷ []) (omega arith))

-- there are as many ticks as events
length_ticks : (place : ℕ) (h : List (Event SealedEntry)) → length (ticks_from place h) ≡ length h
length_ticks place [] = refl
length_ticks place (y ∷ h) = ap suc (length_ticks (place + 1) h)

-- a station has as many ticks as events
pub ticks_as_many : (s : StationState) → IsStation s → length s.ticks ≡ length s.machine.events
ticks_as_many s is = ap length is.ticks ∙ length_ticks 0 s.machine.events

-- with the tick of one event more they are its ticks still
pub ticks_more : (s : StationState) (x : Event SealedEntry) → IsStation s →
    s.ticks ++ record { pass = pass_of x; what = length s.machine.events } ∷ []
    ≡ ticks_from 0 (s.machine.events ++ x ∷ [])
ticks_more s x is =
    ap (λ l. l ++ record { pass = pass_of x; what = length s.machine.events } ∷ []) is.ticks
    ∙ sym (ticks_push 0 s.machine.events x
    ∙ ap (λ n. ticks_from 0 s.machine.events ++ record { pass = pass_of x; what = n } ∷ []) (omega arith))

-- the story grew by ticks of this pass
pub record HasGrown (pass : ℕ) (old new : List Tick) : Type 0 where
  -- the ticks that came since
  pub more : List Tick
  -- they come after the earlier ones
  pub ticks : new ≡ old ++ more
  -- the new ticks are all of this pass
  pub passes : All (λ (t : Tick). t.pass ≡ pass) more

-- what didn't change grew by no tick
pub grown_none : (pass : ℕ) (old new : List Tick) → new ≡ old → HasGrown pass old new
grown_none pass old new is =
    record { more = []; ticks = is ∙ sym (append-nil old); passes = λ k d lt. absurd (omega arith) }

-- and by one tick more
pub grown_more : (tick : Tick) (old now new : List Tick) → HasGrown tick.pass old now → new ≡ now ++ tick ∷ [] →
    HasGrown tick.pass old new
grown_more tick old now new grown is = record {
  more = grown.more ++ tick ∷ [];
  ticks = is ∙ ap (λ l. l ++ tick ∷ []) grown.ticks ∙ append_assoc old grown.more (tick ∷ []);
  passes = All-push (λ (t : Tick). t.pass ≡ tick.pass) grown.more tick grown.passes refl;
}
