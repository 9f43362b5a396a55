-- What a step does to the machines.
use Rattle.std.specs.Prelude.{◌≡◌, ◌≢◌, ◌⊎◌, ◌<◌, ℕ, List, Some, None, slice_get, slice_set}
use Rattle.std.specs.Prelude.{true, false}
use Rattle.entry_format.specs.SealedEntry.{SealedEntry}
use Rattle.entry_order.specs.declared.step.Step.{Step}
use Rattle.entry_order.specs.declared.step.Step.TheVariants.{Act, Hear, Stop}
use Rattle.entry_order.specs.History.{sent}
use Rattle.entry_order.specs.World.{history}
use Rattle.polling_world.specs.declared.acted.Acted.{Acted}
use Rattle.polling_world.specs.declared.acted.Acted.TheVariants as acted
use Rattle.polling_world.specs.declared.heard.MachineHeard.{MachineHeard}
use Rattle.polling_world.specs.declared.heard.MachineHeard.TheVariants as heard
use Rattle.polling_world.specs.declared.stepped.Stepped.{Stepped}
use Rattle.polling_world.specs.declared.stepped.Stepped.TheVariants.{Did, Nothing}
use Rattle.polling_world.specs.Acting.{IsActed}
use Rattle.polling_world.specs.Hearing.{IsHeard, machine_after}
use Rattle.polling_world.specs.Machines.{MachineState, has_stopped}
use Rattle.polling_world.specs.Worlds.{world_of}

-- the step's machines are among this many
abbrev pub IsStepOf : ℕ → Step → Type 0
IsStepOf count (Act machine) = machine < count
IsStepOf count (Hear at from number) = (at < count) × (from < count)
IsStepOf count (Stop machine) = machine < count

-- whether an action was done
abbrev pub stepped_by : Acted → Stepped
stepped_by (acted.Did number copies) = Did
stepped_by acted.Stopped = Nothing
stepped_by acted.NoMore = Nothing
stepped_by (acted.SupervisorNot cause) = Nothing
stepped_by (acted.BoothNot cause) = Nothing
stepped_by acted.Full = Nothing
stepped_by acted.StampSpent = Nothing
stepped_by acted.Spent = Nothing
stepped_by acted.SameDigest = Nothing

-- whether an entry was taken
abbrev pub stepped_in : MachineHeard → Stepped
stepped_in heard.Taken = Did
stepped_in (heard.Stopped back) = Nothing
stepped_in (heard.Own back) = Nothing
stepped_in (heard.Already back) = Nothing
stepped_in (heard.Full back) = Nothing

-- nothing changed
abbrev pub Stays : List MachineState → Stepped → List MachineState → Type 0
Stays old stepped new = (stepped ≡ Nothing) × (new ≡ old)

-- the machine at this place did its next action, or didn't
pub record ActsAt (at : ℕ) (old : List MachineState) (stepped : Stepped) (new : List MachineState) : Type 0 where
  pub before : MachineState
  pub answer : Acted
  pub after : MachineState
  pub stood : slice_get old at ≡ Some before
  pub acted : IsActed before 0 answer after
  pub changed : new ≡ slice_set old at after
  pub told : stepped ≡ stepped_by answer

-- the machine at this place was given the entry
pub record IsGiven (at : ℕ) (e : SealedEntry) (old : List MachineState) (stepped : Stepped) (new : List MachineState)
    : Type 0 where
  pub before : MachineState
  pub answer : MachineHeard
  pub stood : slice_get old at ≡ Some before
  pub heard : IsHeard before e answer
  pub changed : new ≡ slice_set old at (machine_after answer e before)
  pub told : stepped ≡ stepped_in answer

-- the machine at this place was given another's entry with this number, if there is one
abbrev pub HearsAt : ℕ → ℕ → ℕ → List MachineState → Stepped → List MachineState → Type 0
HearsAt at from number old stepped new =
    (((at ≡ from) ⊎ (slice_get (sent (history (world_of old) from)) number ≡ None)) × Stays old stepped new)
    ⊎ ((at ≢ from)
    × ((e : SealedEntry) × (slice_get (sent (history (world_of old) from)) number ≡ Some e)
    × IsGiven at e old stepped new))

-- the machine at this place was stopped, unless it was before
pub record StopsMachine (at : ℕ) (old : List MachineState) (stepped : Stepped) (new : List MachineState) : Type 0 where
  pub before : MachineState
  pub stood : slice_get old at ≡ Some before
  pub changed : ((has_stopped before ≡ false) × (stepped ≡ Did)
      × (new ≡ slice_set old at (record before { marked = true })))
      ⊎ ((has_stopped before ≡ true) × Stays old stepped new)

-- what a step does
abbrev pub StepsBy : Step → List MachineState → Stepped → List MachineState → Type 0
StepsBy (Act at) old stepped new = ActsAt at old stepped new
StepsBy (Hear at from number) old stepped new = HearsAt at from number old stepped new
StepsBy (Stop at) old stepped new = StopsMachine at old stepped new
