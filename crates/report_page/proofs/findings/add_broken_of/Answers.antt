use Rattle.report_page.proofs.findings.add_broken_of.Goals as goal
use Rattle.report_page.proofs.Imports.{ap, append-nil, length, List, Option, slice_get, sym, ◌++◌, ◌∙◌, ◌≡◌, ◌≤◌}
use Rattle.report_page.specs.Findings.{broken_findings}
use Rattle.rule_engine.specs.declared.verdict.Verdict.{Verdict}
use Rattle.rule_language.specs.Forms.{rule_tree}
use Rattle.std.proofs.{Common.None, Common.rules, Common.Some, lemmas.Option.slice_get_past}

-- there is no verdict at the place
pub returns-in-None : goal.returns-in-None
returns-in-None c =
    let rows = c.args.rows.now in
    let place = c.args.place in
    let list = c.verdicts.result.now in
    let past : length list ≤ place = search rules in
    let none : slice_get c.args.report.now.verdicts place ≡ None =
    ap (λ (all : List Verdict). slice_get all place) (sym c.verdicts.ensures.value) ∙ slice_get_past list place past in
    sym (ap (λ (verdict : Option Verdict).
    rows ++ broken_findings c.args.standard (Some (rule_tree c.args.rule.now)) verdict) none
    ∙ append-nil rows)
