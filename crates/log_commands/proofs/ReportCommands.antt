-- The commands that answer with a report.
use Rattle.log_commands.proofs.Imports.{All, All-from_recursion, arith, Contains, IsCarriedOut, IsOfCommands, Outcome}
use Rattle.log_commands.proofs.Imports.{refl, report_statuses, status_by}
use Rattle.auditor.specs.declared.outcome.Outcome.TheVariants as outcome
use Rattle.command_line.specs.declared.status.Status.TheVariants as status

-- each outcome of a report has a status of a command that was carried out
pub outcome_done : (came : Outcome) → IsCarriedOut (status_by came)
outcome_done outcome.Kept = tt
outcome_done outcome.Findings = tt
outcome_done outcome.Unsettled = tt
outcome_done outcome.Broken = tt

-- each outcome of a report has one of a report's statuses
pub outcome_status : (came : Outcome) → Contains report_statuses (status_by came)
outcome_status outcome.Kept = (0, omega arith, refl)
outcome_status outcome.Findings = (1, omega arith, refl)
outcome_status outcome.Unsettled = (2, omega arith, refl)
outcome_status outcome.Broken = (3, omega arith, refl)

-- the status of a refusal is one of a report's
pub refused_status : Contains report_statuses status.Refused
refused_status = (4, omega arith, refl)

-- the status of an absent file is one of a report's
pub absent_status : Contains report_statuses status.Absent
absent_status = (5, omega arith, refl)

-- a report's statuses are ones that commands can have
pub report_statuses_some : All IsOfCommands report_statuses
report_statuses_some = All-from_recursion IsOfCommands report_statuses (tt, (tt, (tt, (tt, (tt, (tt, tt))))))
