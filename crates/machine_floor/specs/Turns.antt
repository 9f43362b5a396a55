-- What the turns of a station do.
use Rattle.std.specs.Prelude.{◌≡◌, ◌≢◌, ℕ, zero, suc, ◌+◌, ◌⊎◌, Bool, true, false, cond, List, [], ◌∷◌, ◌++◌, length}
use Rattle.std.specs.Prelude.{slice_index_or, slice_set, Option, Some, None}
use Rattle.entry_format.specs.SealedEntry.{SealedEntry}
use Rattle.entry_order.specs.declared.event.Event.TheVariants.{Sent, Got}
use Rattle.broadcast_queues.specs.Ends.{InView, TookItem, FoundLinkEmpty}
use Rattle.finished_floor.specs.declared.loss.Loss.{Loss}
use Rattle.finished_floor.specs.declared.loss.LossWhy.{LossWhy}
use Rattle.finished_floor.specs.declared.loss.LossWhy.TheVariants.{ToStopped, LogFull, SameDigest}
use Rattle.floor_links.specs.Sendings.{IsSentBelow}
use Rattle.polling_world.specs.declared.heard.MachineHeard.{MachineHeard}
use Rattle.polling_world.specs.declared.heard.MachineHeard.TheVariants as heard
use Rattle.polling_world.specs.Hearing.{IsHeard}
use Rattle.polling_world.specs.Machines.{with_event}
use Rattle.polling_world.specs.Sending.{MaySend}
use Rattle.machine_floor.specs.Stations.{StationState, made_of}

-- The machine sent its next entry, with one tick more, of pass 0; and each other machine's link has
-- it, or there is one loss more by its cause. The ends in and the brand stay.
pub record HandDid (old new : StationState) : Type 0 where
  pub entry : SealedEntry
  pub may : MaySend old.machine.config old.machine.events entry
  pub machine : new.machine ≡ with_event (Sent entry) old.machine
  pub ticks : new.ticks ≡ old.ticks ++ record { pass = 0; what = length old.machine.events } ∷ []
  pub lost : List Loss
  pub losses : new.losses ≡ old.losses ++ lost
  pub sent : IsSentBelow old.loses old.link (length old.outs) entry old.outs new.outs lost
  pub inns : new.inns ≡ old.inns
  pub made : made_of new ≡ made_of old

-- why an entry that was given to a machine isn't taken
abbrev pub cause_of : MachineHeard → Option LossWhy
cause_of heard.Taken = None
cause_of (heard.Stopped back) = Some ToStopped
cause_of (heard.Own back) = None
cause_of (heard.Already back) = Some SameDigest
cause_of (heard.Full back) = Some LogFull

-- what becomes of an entry that was taken: it is heard, or lost by its cause
abbrev pub IsFate : SealedEntry → ℕ → Option LossWhy → StationState → StationState → Type 0
IsFate x from None old new =
    (new.machine ≡ with_event (Got x) old.machine) × (new.losses ≡ old.losses)
    × (new.ticks ≡ old.ticks ++ record { pass = 1; what = length old.machine.events } ∷ [])
IsFate x from (Some why) old new =
    (new.machine ≡ old.machine) × (new.ticks ≡ old.ticks)
    × (new.losses ≡ old.losses ++ record {
      from = from;
      number = x.entry.number;
      to = old.machine.config.number;
      why = why;
    } ∷ [])

-- An entry of machine `from` was taken, and it is heard or lost as the machine answers. The ends
-- out and the brand stay.
pub record EarTook (from : ℕ) (old new : StationState) : Type 0 where
  pub entry : SealedEntry
  pub end : InView SealedEntry
  pub took : (d : InView SealedEntry) →
      TookItem (λ x. x.entry.maker) (λ x. x.entry.number) (slice_index_or old.inns from d) entry end
  pub inns : new.inns ≡ slice_set old.inns from end
  pub maker : entry.entry.maker ≡ from
  pub answer : MachineHeard
  pub heard : IsHeard old.machine entry answer
  pub fate : IsFate entry from (cause_of answer) old new
  pub outs : new.outs ≡ old.outs
  pub made : made_of new ≡ made_of old

-- the link was found empty, and nothing else changed
pub record EarFoundNone (from : ℕ) (old new : StationState) : Type 0 where
  pub end : InView SealedEntry
  pub empty : (d : InView SealedEntry) → FoundLinkEmpty (slice_index_or old.inns from d) end
  pub changed : new ≡ record old { inns = slice_set old.inns from end }
  pub made : made_of new ≡ made_of old

-- what a look at the link from a machine did, and whether it took an entry
abbrev pub EarDid : ℕ → Bool → StationState → StationState → Type 0
EarDid from true old new = EarTook from old new
EarDid from false old new = EarFoundNone from old new

-- one look more in a turn: none at the machine's own place, and else one at the link from there
abbrev pub IsLook : ℕ → ℕ → StationState → ℕ → StationState → ℕ → Type 0
IsLook own from old before new after =
    ((from ≡ own) × (new ≡ old) × (after ≡ before))
    ⊎ ((from ≢ own) × ((took : Bool) × EarDid from took old new × (after ≡ cond took 1 0 + before)))

-- looks at the links from the first machines but its own, one after another, and how many entries
-- they took
abbrev pub HasLooked : ℕ → ℕ → StationState → StationState → ℕ → Type 0
HasLooked own zero first now taken = (now ≡ first) × (taken ≡ 0)
HasLooked own (suc from) first now taken =
    (old : StationState) × (before : ℕ) × HasLooked own from first old before × IsLook own from old before now taken
