-- What it means that an audit of what is left of an honest place leaves a standard rule unsettled.
use Rattle.std.specs.Prelude.{◌≡◌}
use Rattle.std.specs.List.{AllZip, Contains}
use Rattle.rule_language.specs.Standard.{standard_rules}
use Rattle.rule_engine.specs.declared.verdict.Verdict.TheVariants as verdict
use Rattle.auditor.specs.Report.{AuditReport}
use Rattle.report_exactness.specs.ReportExact.{IsOpenFor}

-- each standard rule that is left unsettled may have been kept and may have been broken: of the
-- entries that complete the survivors some keep it, and some break it
abbrev pub StandardRulesAreOpen : AuditReport → Type 0
StandardRulesAreOpen report =
    AllZip (λ rule is. is ≡ verdict.Unsettled → Contains standard_rules rule → IsOpenFor (λ G. Unit {0}) report rule)
    report.rules report.verdicts
