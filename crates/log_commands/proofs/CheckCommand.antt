-- The command `check`.
use Rattle.log_commands.proofs.Imports.{[], All-from_recursion, ap, arith, Broken, carried_out_as, check_answer}
use Rattle.log_commands.proofs.Imports.{check_parts, checked_status, CheckReport, Contains, contains_as, Err}
use Rattle.log_commands.proofs.Imports.{GivesCheck, HasOneAnswer, HasStatuses, inl, inr, IsCarriedOut, IsCheckOf}
use Rattle.log_commands.proofs.Imports.{IsCompleted, IsOfCommands, List, of_read, Ok, refl, same_or, source_named}
use Rattle.log_commands.proofs.Imports.{Status, sym, Unsettled, verdict_on_all, ℕ, ◌∙◌, ◌∷◌, ◌≡◌}
use Rattle.log_commands.proofs.{OneOrderAnswer.OrderOne, OneProof.one_check, OneProof.ProofOne}
use Rattle.audit_proof.specs.{declared.fault.Verdict.Verdict, declared.fault.Verdict.TheVariants.Kept}
use Rattle.command_line.specs.declared.status.Status.TheVariants as status

-- over files it has one answer
pub check_one : OrderOne → ProofOne → (roster rules proof : List ℕ) (logs : List (List ℕ)) →
    HasOneAnswer (check_parts roster rules proof logs)
check_one order one roster rules proof logs files a b =
    same_or (λ (r s : CheckReport). r ≡ s) _ IsCheckOf a b
    (one_check order one roster (source_named rules) proof logs files)
    (λ r s gives same x y. x.told ∙ ap (λ t. check_answer t.rules t.verdicts) same ∙ sym y.told)

-- each verdict has a status of a command that was carried out
verdict_done : (verdict : Verdict) → IsCarriedOut (checked_status verdict)
verdict_done Kept = tt
verdict_done Broken = tt
verdict_done Unsettled = tt

-- `check` is carried out over files that give a report
pub check_completed : OrderOne → ProofOne → (roster rules proof : List ℕ) (logs : List (List ℕ)) →
    IsCompleted (check_parts roster rules proof logs)
check_completed order one roster rules proof logs files answer (inl (refusal, gives, e)) (report, given) =
    absurd (one_check order one roster (source_named rules) proof logs files (Err refusal) (Ok report) gives given)
check_completed order one roster rules proof logs files answer (inr (other, gives, is)) (report, given) =
    carried_out_as answer (check_answer other.rules other.verdicts) is.told (verdict_done (verdict_on_all other.verdicts))

-- its statuses
abbrev own_statuses : List Status
own_statuses = status.Done ∷ status.Unsettled ∷ status.Broken ∷ status.Refused ∷ status.Absent ∷ []

verdict_has : (verdict : Verdict) → Contains own_statuses (checked_status verdict)
verdict_has Kept = (0, omega arith, refl)
verdict_has Unsettled = (1, omega arith, refl)
verdict_has Broken = (2, omega arith, refl)

pub check_has_statuses : (roster rules proof : List ℕ) (logs : List (List ℕ)) →
    HasStatuses (check_parts roster rules proof logs)
check_has_statuses roster rules proof logs = record {
  own = λ files answer is.
      of_read own_statuses (3, omega arith, refl) (4, omega arith, refl)
      (GivesCheck roster (source_named rules) proof logs files) IsCheckOf answer
      (λ (report : CheckReport) right. contains_as own_statuses answer _ right.told
      (verdict_has (verdict_on_all report.verdicts))) is;
  some = All-from_recursion IsOfCommands own_statuses (tt, (tt, (tt, (tt, (tt, tt)))));
}
