-- The command `demo`.
use Rattle.auditorium_core.proofs.Imports
use Imports.{[], absent_status, Answer, Contains, Demonstration, demonstration_answer, demonstration_parts, generated}
use Imports.{GivesDemonstration, HasOneAnswer, HasStatuses, inl, inr, IsCompleted, List, Option, outcome_done}
use Imports.{outcome_status, refused_status, report_statuses, report_statuses_some, ℕ, ◌∷◌, ◌≡◌}
use Rattle.auditorium_core.proofs.OneDemonstrationAnswer.{same_demonstration, same_half, ShowOne}
use Rattle.command_line.proofs.CommandProofs.{carried_out_as, contains_as, of_read}

-- a number of sessions has one answer
pub demonstration_one : ShowOne → (sessions : ℕ) → HasOneAnswer (demonstration_parts sessions)
demonstration_one one sessions [] a b x y = same_demonstration one sessions a b x y
demonstration_one one sessions (file ∷ files) a b x y = absurd x

-- `demo` is carried out where what is kept gives a report: a refusal would contradict the report,
-- since sessions have one half, and what is shown has the status of a report
pub demonstration_completed : ShowOne → (sessions : ℕ) → IsCompleted (demonstration_parts sessions)
demonstration_completed one sessions [] answer given (half, is_half, machines, report, audited) =
    elim given.right [
      | inl (refusal, refused, e) ↦ absurd (one.either (generated sessions) half machines report refusal audited
          (rw (same_half sessions given.half half given.is_half is_half) at refused))
      | inr (shown, shows, e) ↦
          carried_out_as answer (demonstration_answer sessions shown) e (outcome_done shown.outcome)
    ]
demonstration_completed one sessions (file ∷ files) answer right given = absurd right

-- and has its statuses
of_files : (sessions : ℕ) (files : List (Option (List ℕ))) (answer : Answer) →
    (demonstration_parts sessions).IsAnswer files answer → Contains report_statuses answer.status
of_files sessions [] answer is =
    of_read report_statuses refused_status absent_status (GivesDemonstration (generated sessions) is.half)
    (λ shown told. told ≡ demonstration_answer sessions shown) answer
    (λ (shown : Demonstration) e. contains_as report_statuses answer (demonstration_answer sessions shown) e
    (outcome_status shown.outcome)) is.right
of_files sessions (file ∷ files) answer is = absurd is

pub demonstration_has_statuses : (sessions : ℕ) → HasStatuses (demonstration_parts sessions)
demonstration_has_statuses sessions = record { own = of_files sessions; some = report_statuses_some }
