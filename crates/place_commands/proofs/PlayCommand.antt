-- The command `play`.
use Rattle.place_commands.proofs.Imports.{Answer, ap, HasOneAnswer, HasStatuses, IsCompleted, IsPlayOf, List}
use Rattle.place_commands.proofs.Imports.{play_parts, ℕ}
use Rattle.place_commands.proofs.{OnePlayAnswer.PlayOne, OnePlayAnswer.same_play_of, ScriptCommands.play_statuses_some}
use Rattle.place_commands.proofs.ScriptCommands.{script_completed, script_one, script_status, TellsUndone}

-- its answer has the status of the lines on what is left
pub play_tells : (prefix : List ℕ) → TellsUndone (IsPlayOf prefix)
play_tells prefix script answer done = (done.undone, ap (λ (a : Answer). a.status) done.told)

-- over a file it has one answer
pub play_one : PlayOne → (script prefix : List ℕ) → HasOneAnswer (play_parts script prefix)
play_one one script prefix = script_one script (IsPlayOf prefix) one (same_play_of one prefix)

-- `play` is carried out over a script's file
pub play_completed : PlayOne → (script prefix : List ℕ) → IsCompleted (play_parts script prefix)
play_completed one script prefix = script_completed script (IsPlayOf prefix) (play_tells prefix) one

-- and has its statuses
pub play_has_statuses : (script prefix : List ℕ) → HasStatuses (play_parts script prefix)
play_has_statuses script prefix =
    record { own = script_status script (IsPlayOf prefix) (play_tells prefix); some = play_statuses_some }
