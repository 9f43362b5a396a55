-- The command `run`.
use Rattle.place_commands.proofs.Imports.{HasStatuses, IsCompleted, ℕ, List, ap, Answer, IsRunOf, run_parts}
use Rattle.place_commands.proofs.OnePlayAnswer.{PlayOne}
use Rattle.place_commands.proofs.ScriptCommands.{TellsUndone, script_completed, script_status, play_statuses_some}

-- its answer has the status of the lines on what is left
pub run_tells : (prefix : List ℕ) → TellsUndone (IsRunOf prefix)
run_tells prefix script answer done = (done.undone, ap (λ (a : Answer). a.status) done.told)

-- `run` is carried out over a script's file
pub run_completed : PlayOne → (script prefix : List ℕ) → IsCompleted (run_parts script prefix)
run_completed one script prefix = script_completed script (IsRunOf prefix) (run_tells prefix) one

-- and has its statuses
pub run_has_statuses : (script prefix : List ℕ) → HasStatuses (run_parts script prefix)
run_has_statuses script prefix =
    record { own = script_status script (IsRunOf prefix) (run_tells prefix); some = play_statuses_some }
