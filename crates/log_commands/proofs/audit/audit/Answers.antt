use Rattle.log_commands.proofs.Imports.{found_answered, inl, inr, Ok, refl, refused_answered}
use Rattle.log_commands.proofs.{HonestAudits.audit_right, SoundReports.given_is_sound}
use Rattle.log_commands.proofs.audit.audit.Goals as goal

pub returns-in-Err : goal.returns-in-Err
returns-in-Err g c =
    refused_answered g.S.Store _ _ _ _ _ _ c.in-Err.fault _ (rw c.rules_from.ensures at c.in-Err.ensures)
    c.of_fault.ensures.ok c.of_fault.ensures.err
    (λ files refusal gives. audit_right _ _ _ files _ (inl (refusal, gives, refl)))

pub returns-in_ok-answer_of-in-Ok : goal.returns-in_ok-answer_of-in-Ok
returns-in_ok-answer_of-in-Ok g c =
    let told = c.in_ok-answer_of-in-Ok.ensures in
    found_answered g.S.Store _ _ _ _ _ _ c.in-Ok.report (Ok _) (rw c.rules_from.ensures at c.in-Ok.ensures)
    (λ files gives. audit_right _ _ _ files _
    (inr (_, gives, record { sound = given_is_sound _ _ _ files _ gives; told = told.told })))
    told.status tt
