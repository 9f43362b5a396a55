-- The faults of an audit, with causes as lines of output have them.
use Rattle.std.specs.Prelude.{◌≡◌, ◌⊎◌, Result, Ok, Err, IsErrAnd, string_bytes}
use Rattle.std.specs.Prelude.{String}
use Rattle.std.specs.declared.alloc.Global.{Global}
use Rattle.input_causes.specs.Causes.{cause_text}
use Rattle.evidence.specs.declared.fault.InputFault.{InputFault}
use Rattle.evidence.specs.declared.fault.InputFault.TheVariants as input
use Rattle.auditor.specs.declared.fault.AuditFault.{AuditFault}
use Rattle.auditor.specs.declared.fault.AuditFault.TheVariants.{Absent, Refused, ReadFault, Memory}

-- the fault as an audit's caller gets it; memory may run out for the text of a cause
abbrev pub IsSaidAs : InputFault → AuditFault → Type 0
IsSaidAs (input.Absent file) said = said ≡ Absent file
IsSaidAs (input.Refused file place cause) said =
    (said ≡ Memory)
    ⊎ ((text : String Global) × (string_bytes text ≡ cause_text cause)
    × (said ≡ Refused file place text))
IsSaidAs input.ReadFault said = said ≡ ReadFault
IsSaidAs input.Memory said = said ≡ Memory

-- the answer as an audit's caller gets it
abbrev pub IsReportedAs : {T : Type 0} → Result T InputFault → Result T AuditFault → Type 0
IsReportedAs (Ok found) told = told ≡ Ok found
IsReportedAs (Err fault) told = IsErrAnd told (IsSaidAs fault)
