-- One look at a link after another.
use Rattle.machine_floor.proofs.Imports.{ap, arith, Bool, bool_byte, cause_of, cond, EarDid, false, IsFate, length}
use Rattle.machine_floor.proofs.Imports.{LossWhy, made_of, None, Option, refl, SealedEntry, Some, StationState, true, ℕ}
use Rattle.machine_floor.proofs.{Imports.◌≡◌, Imports.◌≤◌, Ticks.grown_more, Ticks.HasGrown}

-- an entry that is heard adds one tick of pass 1, and one that is lost adds none
fate_ticks : (first old new : StationState) (x : SealedEntry) (from : ℕ) (cause : Option LossWhy) →
    IsFate x from cause old new → HasGrown 1 first.ticks old.ticks → HasGrown 1 first.ticks new.ticks
fate_ticks first old new x from None fate grown =
    grown_more (record { pass = 1; what = length old.machine.events }) first.ticks old.ticks new.ticks grown fate.2
fate_ticks first old new x from (Some why) fate grown = rw fate.1 grown

-- a look at one link more adds no ticks but the ear's, and no look changes what the station was made
-- of
pub heard_more : (first old new : StationState) (from : ℕ) (took : Bool) → HasGrown 1 first.ticks old.ticks →
    EarDid from took old new → HasGrown 1 first.ticks new.ticks × (made_of new ≡ made_of old)
heard_more first old new from true grown did =
    (fate_ticks first old new did.entry from (cause_of did.answer) did.fate grown, did.made)
heard_more first old new from false grown did =
    (rw (ap (λ (s : StationState). s.ticks) did.changed) grown, did.made)

-- a look counts one entry or none
pub counts : (took : Bool) → (bool_byte took ≡ cond took 1 0) × (bool_byte took ≤ 1)
counts true = (refl, omega arith)
counts false = (refl, omega arith)
