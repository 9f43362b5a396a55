-- The command `repair`.
use Rattle.place_commands.proofs.Imports.{Answer, ap, HasOneAnswer, HasStatuses, IsCompleted, IsRepairOf, List}
use Rattle.place_commands.proofs.Imports.{repair_parts, ℕ}
use Rattle.place_commands.proofs.{OnePlayAnswer.PlayOne, Repairs.same_repair_of, ScriptCommands.play_statuses_some}
use Rattle.place_commands.proofs.ScriptCommands.{script_completed, script_one, script_status, TellsUndone}

-- its answer has the status of the lines on what is left
pub repair_tells : (prefix : List ℕ) → TellsUndone (IsRepairOf prefix)
repair_tells prefix script answer done = (done.undone, ap (λ (a : Answer). a.status) done.told)

-- over a file it has one answer
pub repair_one : PlayOne → (script prefix : List ℕ) → HasOneAnswer (repair_parts script prefix)
repair_one one script prefix = script_one script (IsRepairOf prefix) one (same_repair_of one prefix)

-- `repair` is carried out over a script's file
pub repair_completed : PlayOne → (script prefix : List ℕ) → IsCompleted (repair_parts script prefix)
repair_completed one script prefix = script_completed script (IsRepairOf prefix) (repair_tells prefix) one

-- and has its statuses
pub repair_has_statuses : (script prefix : List ℕ) → HasStatuses (repair_parts script prefix)
repair_has_statuses script prefix =
    record { own = script_status script (IsRepairOf prefix) (repair_tells prefix); some = play_statuses_some }
