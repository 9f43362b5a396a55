-- The command `audit`.
use Rattle.log_commands.proofs.Imports.{[], Answer, audit_parts, AuditReport, carried_out_as, contains_as, Err}
use Rattle.log_commands.proofs.Imports.{FilesGiveOneReport, GiveReport, GivesReport, HasOneAnswer, HasStatuses, inl}
use Rattle.log_commands.proofs.Imports.{inr, IsAuditOf, IsAuditOver, IsCarriedOut, IsCompleted, List, of_read, Ok}
use Rattle.log_commands.proofs.Imports.{Option, outcome_of, report_answer, report_statuses, same_or, SameReport}
use Rattle.log_commands.proofs.Imports.{source_named, status_by, sym, ℕ, ◌∙◌, ◌≡◌}
use Rattle.log_commands.proofs.ReportCommands.{absent_status, outcome_done, outcome_status, refused_status}
use Rattle.log_commands.proofs.ReportCommands.{report_statuses_some}

-- a report has one answer
pub same_told : (report other : AuditReport) → SameReport report other → report_answer report ≡ report_answer other
same_told report other same =
    λ i. record { status = status_by (same.outcome i); files = []; ahead = 0; output = same.text i }

-- `audit` has one answer over given files, as these give one report
pub audit_one : FilesGiveOneReport → (roster rules : List ℕ) (logs : List (List ℕ)) →
    HasOneAnswer (audit_parts roster rules logs)
audit_one one roster rules logs files a b first second =
    same_or SameReport _ IsAuditOf a b (one roster (source_named rules) logs files)
    (λ f g gives same x y. x.told ∙ same_told f g same ∙ sym y.told) first.right second.right

-- it is carried out over what gives a report
over_done : FilesGiveOneReport → (roster rules : List ℕ) (logs : List (List ℕ)) (files : List (Option (List ℕ)))
    (answer : Answer) → GiveReport roster rules logs files → IsAuditOver roster rules logs files answer →
    IsCarriedOut answer.status
over_done one roster rules logs files answer (report, given) (inl (refusal, gives, e)) =
    absurd (one roster (source_named rules) logs files (Err refusal) (Ok report) gives given)
over_done one roster rules logs files answer given (inr (other, gives, is)) =
    carried_out_as answer _ is.told (outcome_done (outcome_of other))

-- `audit` is carried out over files that give a report
pub audit_completed : FilesGiveOneReport → (roster rules : List ℕ) (logs : List (List ℕ)) →
    IsCompleted (audit_parts roster rules logs)
audit_completed one roster rules logs files answer right given =
    over_done one roster rules logs files answer given right.right

-- `audit` answers with one of its statuses
pub audit_has_statuses : (roster rules : List ℕ) (logs : List (List ℕ)) → HasStatuses (audit_parts roster rules logs)
audit_has_statuses roster rules logs = record {
  own = λ files answer is.
      of_read report_statuses refused_status absent_status (GivesReport roster (source_named rules) logs files)
      IsAuditOf answer
      (λ (report : AuditReport) right. contains_as report_statuses answer _ right.told
      (outcome_status (outcome_of report))) is.right;
  some = report_statuses_some;
}
