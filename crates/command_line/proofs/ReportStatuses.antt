-- The statuses of reports.
use Rattle.command_line.proofs.Imports.{◌≢◌}
use Rattle.auditor.specs.declared.outcome.Outcome.{Outcome}
use Rattle.auditor.specs.declared.outcome.Outcome.TheVariants as outcome
use Rattle.command_line.specs.declared.status.Status.TheVariants as status
use Rattle.command_line.specs.Reports.{status_by}

-- what a report comes to is no absence
pub not_absent : (how : Outcome) → status_by how ≢ status.Absent
not_absent outcome.Kept e = cc
not_absent outcome.Findings e = cc
not_absent outcome.Unsettled e = cc
not_absent outcome.Broken e = cc
