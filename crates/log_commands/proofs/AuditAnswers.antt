-- The answers of `audit`.
use Rattle.log_commands.proofs.Imports.{Outcome, Status, status_by, sym, ◌∙◌, ◌≡◌, ◌≢◌}
use Rattle.command_line.proofs.ReportStatuses.{not_absent as absent}
use Rattle.command_line.specs.declared.status.Status.TheVariants as status

-- the status of a report isn't that of an absent file
pub not_absent : (came : Outcome) (how : Status) → how ≡ status_by came → how ≢ status.Absent
not_absent came how is e = absent came (sym is ∙ e)
