use Rattle.report_page.proofs.findings.add_unsettled_at.Goals as goal
use Rattle.report_page.proofs.Imports.{ap, append-nil, length, List, map, Option, slice_get, sym, ◌++◌, ◌∙◌, ◌≡◌, ◌≤◌}
use Rattle.report_page.specs.Findings.{unsettled_findings}
use Rattle.rule_language.specs.{Forms.rule_tree, Trees.RuleTree, declared.formula.Rule.Rule}
use Rattle.std.proofs.{Common.None, Common.rules, lemmas.Option.slice_get-map, lemmas.Option.slice_get_past}
use Rattle.std.specs.Prelude.{option_map}

-- there is no rule at the place
pub returns-in-None : goal.returns-in-None
returns-in-None c =
    let rows = c.args.rows.now in
    let place = c.args.place in
    let list = c.rules.result.now in
    let past : length list ≤ place = search rules in
    let none : slice_get c.args.report.now.rules place ≡ None =
    ap (λ (all : List Rule). slice_get all place) (sym c.rules.ensures.value) ∙ slice_get_past list place past in
    let mapped : slice_get (map rule_tree c.args.report.now.rules) place ≡ None =
    slice_get-map rule_tree c.args.report.now.rules place ∙ ap (λ (o : Option Rule). option_map rule_tree o) none in
    sym (ap (λ (rule : Option RuleTree).
    rows ++ unsettled_findings rule (slice_get c.args.report.now.verdicts place)) mapped
    ∙ append-nil rows)
