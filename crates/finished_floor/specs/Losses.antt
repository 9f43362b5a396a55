-- What is lost between the machines of a script, and why.
use Rattle.std.specs.Prelude.{◌≡◌, ◌≢◌, ◌⊎◌, ℕ, ◌<◌, ◌≤◌, nat_lt, ◌&&◌, not, Bool, true, false, List, [], length, All}
use Rattle.std.specs.Prelude.{Some, slice_get, AllPairs}
use Rattle.std.specs.List.{Contains, filter, list_any, flat_map}
use Rattle.entry_format.specs.Nodes.{node_of_sealed}
use Rattle.entry_format.specs.SealedEntry.{SealedEntry}
use Rattle.entry_order.specs.History.{held, sent}
use Rattle.entry_order.specs.Naming.{Distinct}
use Rattle.entry_order.specs.World.{history, sent_in}
use Rattle.election_script.specs.declared.script.Script.{Script}
use Rattle.finished_floor.specs.declared.loss.Loss.{Loss}
use Rattle.finished_floor.specs.declared.loss.LossWhy.{LossWhy}
use Rattle.finished_floor.specs.declared.loss.LossWhy.TheVariants.{Scripted, LinkFull, ToStopped, LogFull, SameDigest}
use Rattle.finished_floor.specs.Arrivals.{got_from, is_lost, is_of}
use Rattle.finished_floor.specs.Placed.{count_sent}
use Rattle.finished_floor.specs.Scripted.{is_scripted}
use Rattle.polling_world.specs.Machines.{MachineState}
use Rattle.polling_world.specs.Worlds.{world_of}

-- an entry that is lost so was never on the link
abbrev pub is_before_link : LossWhy → Bool
is_before_link Scripted = true
is_before_link LinkFull = true
is_before_link other = false

-- the entry was never on the link from one machine to another
abbrev pub is_kept_off : List Loss → ℕ → ℕ → ℕ → Bool
is_kept_off losses from number to = list_any (λ loss. is_of from number to loss && is_before_link loss.why) losses

-- the entries of a machine with lower numbers that were put on the link to another
abbrev pub put_before : List MachineState → List Loss → ℕ → ℕ → ℕ → List SealedEntry
put_before machines losses from number to =
    filter (λ e. nat_lt e.entry.number number && not (is_kept_off losses from e.entry.number to))
    (sent (history (world_of machines) from))

-- the machine holds another entry with the digest of this one, which is lost where that one is held
pub record HoldsAnother (machines : List MachineState) (from number : ℕ) (m : MachineState) : Type 0 where
  pub entry : SealedEntry
  pub was_sent : Contains (sent (history (world_of machines) from)) entry
  pub numbered : entry.entry.number ≡ number
  pub other : SealedEntry
  pub is_held : Contains (held m.events) other
  pub differs : other ≢ entry
  pub same : (node_of_sealed other).digest ≡ (node_of_sealed entry).digest

-- Why an entry is lost: a line of the script names it; or none does and at least as many entries
-- with lower numbers were put on the link as it holds; or its receiver has as many events as its
-- stop line says, or, where it hasn't, as its log can have, or holds another entry with its digest.
abbrev pub IsCauseOf : Script → List MachineState → List Loss → Loss → LossWhy → Type 0
IsCauseOf script machines losses loss Scripted = is_scripted script.loses loss.from loss.number loss.to ≡ true
IsCauseOf script machines losses loss LinkFull =
    (is_scripted script.loses loss.from loss.number loss.to ≡ false)
    × (script.link ≤ length (put_before machines losses loss.from loss.number loss.to))
IsCauseOf script machines losses loss ToStopped =
    (m : MachineState) × (slice_get machines loss.to ≡ Some m) × (m.stop ≡ Some (length m.events))
IsCauseOf script machines losses loss LogFull =
    (m : MachineState) × (slice_get machines loss.to ≡ Some m) × (m.stop ≢ Some (length m.events))
    × (length m.events ≡ script.log)
IsCauseOf script machines losses loss SameDigest =
    (m : MachineState) × (slice_get machines loss.to ≡ Some m) × HoldsAnother machines loss.from loss.number m

-- the loss is of an entry that one machine sent, on its way to another
pub record IsOnWay (machines : List MachineState) (loss : Loss) : Type 0 where
  pub from : loss.from < length machines
  pub to : loss.to < length machines
  pub other : loss.from ≢ loss.to
  pub number : loss.number < count_sent machines loss.from

-- each entry that was sent and that a line of the script names is lost so
abbrev pub AreLostAsScripted : Script → List MachineState → List Loss → Type 0
AreLostAsScripted script machines losses =
    (from number to : ℕ) → from < length machines → to < length machines → from ≢ to →
    number < count_sent machines from → is_scripted script.loses from number to ≡ true →
    Contains losses (record { from = from; number = number; to = to; why = Scripted })

-- each entry that a machine sent was got by each other machine and isn't lost on its way there, or
-- wasn't got and is lost
abbrev pub IsGotOrLost : List MachineState → List Loss → Type 0
IsGotOrLost machines losses =
    (from to : ℕ) (e : SealedEntry) → from < length machines → to < length machines → from ≢ to →
    Contains (sent (history (world_of machines) from)) e →
    let got = Contains (got_from node_of_sealed from (history (world_of machines) to)) e in
    (got × (is_lost losses from e.entry.number to ≡ false))
    ⊎ ((got → ⊥) × (is_lost losses from e.entry.number to ≡ true))

-- by sender, then by receiver, then by number
abbrev pub IsToldBefore : Loss → Loss → Type 0
IsToldBefore a b =
    (a.from < b.from) ⊎ ((a.from ≡ b.from) × ((a.to < b.to) ⊎ ((a.to ≡ b.to) × (a.number < b.number))))

-- The losses are reported once each, in order; they are of all entries that weren't got, and of no
-- others; and each has its cause.
pub record AreLosses (script : Script) (machines : List MachineState) (losses : List Loss) : Type 0 where
  pub sorted : AllPairs IsToldBefore losses
  pub each : IsGotOrLost machines losses
  pub only : All (IsOnWay machines) losses
  pub causes : All (λ loss. IsCauseOf script machines losses loss loss.why) losses
  pub scripted : AreLostAsScripted script machines losses

-- Where each link holds as many entries as any machine has actions, each log as many as all have,
-- no line loses or stops, and different entries have different digests, nothing is lost.
abbrev pub LosesNothing : Script → List MachineState → List Loss → Type 0
LosesNothing script machines losses =
    All (λ cast. length cast.actions ≤ script.link) script.machines →
    length (flat_map (λ cast. cast.actions) script.machines) ≤ script.log →
    script.loses ≡ [] → script.stops ≡ [] → Distinct node_of_sealed (sent_in (world_of machines)) → losses ≡ []
