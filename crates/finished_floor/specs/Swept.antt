-- What may be lost in a sweep, and why.
use Rattle.std.specs.Prelude.{◌≡◌, ◌≢◌, ℕ, ◌<◌, ◌≤◌, true, List, length, Some, slice_get}
use Rattle.std.specs.List.{Contains}
use Rattle.entry_format.specs.Nodes.{node_of_sealed}
use Rattle.entry_format.specs.SealedEntry.{SealedEntry}
use Rattle.entry_order.specs.History.{held, sent}
use Rattle.entry_order.specs.Naming.{IsBorneIn}
use Rattle.entry_order.specs.World.{history}
use Rattle.election_script.specs.declared.script.Lose.{Lose}
use Rattle.finished_floor.specs.Scripted.{is_scripted}
use Rattle.finished_floor.specs.declared.loss.Loss.{Loss}
use Rattle.finished_floor.specs.declared.loss.LossWhy.{LossWhy}
use Rattle.finished_floor.specs.declared.loss.LossWhy.TheVariants.{Scripted, LinkFull, ToStopped, LogFull, SameDigest}
use Rattle.polling_world.specs.Machines.{MachineState}
use Rattle.polling_world.specs.Worlds.{world_of}
use Rattle.finished_floor.specs.Placed.{count_sent}

-- an entry of the machine `from` with this number has a digest that m holds
abbrev pub HoldsSame : List MachineState → ℕ → ℕ → MachineState → Type 0
HoldsSame machines from number m =
    (e : SealedEntry) × Contains (sent (history (world_of machines) from)) e × (e.entry.number ≡ number)
    × IsBorneIn node_of_sealed (held m.events) (node_of_sealed e).digest

-- Why an entry is lost in a sweep: a line of the script names it; or its receiver has as many
-- events as it stops at, or, where it hasn't, as its log can have, or holds another entry with its
-- digest. No link is full.
abbrev pub IsLossCause : List Lose → List MachineState → Loss → LossWhy → Type 0
IsLossCause loses machines loss Scripted = is_scripted loses loss.from loss.number loss.to ≡ true
IsLossCause loses machines loss LinkFull = ⊥
IsLossCause loses machines loss ToStopped =
    (m : MachineState) × (slice_get machines loss.to ≡ Some m) × (m.stop ≡ Some (length m.events))
IsLossCause loses machines loss LogFull =
    (m : MachineState) × (slice_get machines loss.to ≡ Some m) × (m.stop ≢ Some (length m.events))
    × (length m.events ≡ m.config.log)
IsLossCause loses machines loss SameDigest =
    (m : MachineState) × (slice_get machines loss.to ≡ Some m) × HoldsSame machines loss.from loss.number m

-- the loss is of an entry that one machine sent, on its way to another, and has its cause
pub record IsLicensed (loses : List Lose) (machines : List MachineState) (loss : Loss) : Type 0 where
  pub from : loss.from < length machines
  pub to : loss.to < length machines
  pub other : loss.from ≢ loss.to
  pub number : loss.number < count_sent machines loss.from
  pub cause : IsLossCause loses machines loss loss.why

-- of the entries that were sent since `old`, each that a line of the script names is lost so
abbrev pub AreScripted : List Lose → List MachineState → List MachineState → List Loss → Type 0
AreScripted loses old new losses =
    (from number to : ℕ) → from < length new → to < length new → from ≢ to →
    count_sent old from ≤ number → number < count_sent new from → is_scripted loses from number to ≡ true →
    Contains losses (record { from = from; number = number; to = to; why = Scripted })
