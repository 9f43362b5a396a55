-- What a script and a session show is one.
use Rattle.std.specs.Prelude.{◌≡◌, ℕ, List, Ok}
use Rattle.auditor.specs.Report.{AuditReport}
use Rattle.election_script.specs.declared.script.Script.{Script}
use Rattle.evidence.specs.Refusal.{Refusal}
use Rattle.polling_world.specs.Machines.{MachineState}
use Rattle.demonstration.specs.declared.shown.Demonstration.{Demonstration}
use Rattle.demonstration.specs.Shown.{IsAudited, IsDemonstrationOf, IsRefusedSo}

-- any two demonstrations of a script are one
abbrev pub ScriptsAreShownInOneWay : Type 0
ScriptsAreShownInOneWay =
    (script : Script) (session : ℕ) (shown other : Demonstration) → IsDemonstrationOf script session shown →
    IsDemonstrationOf script session other → shown ≡ other

-- any two refusals of a script's demonstration are one
abbrev pub ScriptsAreRefusedInOneWay : Type 0
ScriptsAreRefusedInOneWay =
    (script : Script) (session : ℕ) (refusal other : Refusal) → IsRefusedSo script session refusal →
    IsRefusedSo script session other → refusal ≡ other

-- where the audit gives a report, it isn't refused
abbrev pub ScriptsAreShownOrRefused : Type 0
ScriptsAreShownOrRefused =
    (script : Script) (session : ℕ) (machines : List MachineState) (report : AuditReport) (refusal : Refusal) →
    IsAudited script session machines (Ok report) → ¬ IsRefusedSo script session refusal
