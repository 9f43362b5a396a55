-- What becomes of an entry that a machine hears.
use Rattle.std.specs.Prelude.{◌≡◌, IsTrue}
use Rattle.entry_format.specs.Nodes.{node_of_sealed}
use Rattle.entry_format.specs.SealedEntry.{SealedEntry}
use Rattle.entry_order.specs.declared.event.Event.TheVariants.{Got}
use Rattle.entangled_log.specs.declared.heard.Heard.TheVariants as log
use Rattle.entangled_log.specs.Hearing.{IsHearAnswer}
use Rattle.polling_world.specs.declared.heard.MachineHeard.{MachineHeard}
use Rattle.polling_world.specs.declared.heard.MachineHeard.TheVariants.{Taken, Stopped, Own, Already, Full}
use Rattle.polling_world.specs.Machines.{MachineState, log_of, with_event, has_stopped}
use Rattle.polling_world.specs.Waiting.{IsGoing}

-- the machine has stopped, or else the answer is its log's; what isn't taken comes back
abbrev pub IsHeard : MachineState → SealedEntry → MachineHeard → Type 0
IsHeard m e Taken = IsGoing m × IsHearAnswer node_of_sealed (log_of m) e log.Taken
IsHeard m e (Stopped back) = IsTrue (has_stopped m) × (back ≡ e)
IsHeard m e (Own back) = IsGoing m × IsHearAnswer node_of_sealed (log_of m) e (log.Own back)
IsHeard m e (Already back) = IsGoing m × IsHearAnswer node_of_sealed (log_of m) e (log.Already back)
IsHeard m e (Full back) = IsGoing m × IsHearAnswer node_of_sealed (log_of m) e (log.Full back)

-- the machine once e was heard with this answer
abbrev pub machine_after : MachineHeard → SealedEntry → MachineState → MachineState
machine_after Taken e m = with_event (Got e) m
machine_after (Stopped back) e m = m
machine_after (Own back) e m = m
machine_after (Already back) e m = m
machine_after (Full back) e m = m
