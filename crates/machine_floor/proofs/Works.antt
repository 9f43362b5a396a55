-- What a worker's turn shows to the lock.
use Rattle.machine_floor.proofs.Imports.{◌≡◌, ℕ, Bool, true, false, List, ◌++◌, length, refl, sym, ap, ◌∙◌, All}
use Rattle.machine_floor.proofs.Imports.{ticks_since, Tick, StationState, made_of, HandDid, Err, Ok, Result, front_rest}
use Rattle.machine_floor.proofs.Imports.{IfOk, OnErr, AllocError, IsPrefix}
use Rattle.machine_floor.proofs.Ticks.{HasGrown, grown_none, grown_more}

-- a hand's turn adds one tick or none, and keeps what the station was made of
pub hand_turned : (result : Result Bool AllocError) (old new : StationState) →
    IfOk result (λ yes. yes ≡ true → HandDid old new) → IfOk result (λ yes. yes ≡ false → new ≡ old) →
    OnErr result (new ≡ old) → HasGrown 0 old.ticks new.ticks × (made_of new ≡ made_of old)
hand_turned (Ok true) old new did none err =
    let d = did refl in (
      grown_more (record { pass = 0; what = length old.machine.events }) old.ticks old.ticks new.ticks
          (grown_none 0 old.ticks old.ticks refl) d.ticks,
      d.made,
    )
hand_turned (Ok false) old new did none err =
    (grown_none 0 old.ticks new.ticks (ap (λ (s : StationState). s.ticks) (none refl)), ap made_of (none refl))
hand_turned (Err e) old new did none err =
    (grown_none 0 old.ticks new.ticks (ap (λ (s : StationState). s.ticks) err), ap made_of err)

-- the story now begins with what was held, and all ticks since are of the worker's pass
pub released : (pass number : ℕ) (held old new now : List Tick) → HasGrown pass old new → old ≡ held → now ≡ new →
    number ≡ pass → IsPrefix held now × All (λ (t : Tick). t.pass ≡ number) (ticks_since held now)
released pass number held old new now grown was is same =
    let split : now ≡ held ++ grown.more = is ∙ grown.ticks ∙ ap (λ l. l ++ grown.more) was in
    ((grown.more, sym split), rw (front_rest now held grown.more split, same) grown.passes)
