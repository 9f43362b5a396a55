-- The tables of the rules: broken, unsettled and kept.
use Rattle.std.specs.Prelude.{ℕ, Bool, true, false, if◌then◌else◌, List, [], ◌∷◌, ◌++◌, length, Option, Some}
use Rattle.std.specs.Prelude.{slice_get, slice_index_or}
use Rattle.std.specs.List.{flat_map, range_with_len}
use Rattle.std.specs.Str.{bytes_eq}
use Rattle.rule_language.specs.Trees.{RuleTree}
use Rattle.rule_language.specs.Written.{rule_text, rules_text}
use Rattle.rule_language.specs.declared.standard_text.TheConstants.{STANDARD}
use Rattle.rule_engine.specs.declared.verdict.Verdict.{Verdict}
use Rattle.rule_engine.specs.declared.verdict.Verdict.TheVariants.{Kept, Broken, Unsettled}
use Rattle.auditor.specs.Report.{AuditReport}
use Rattle.report_page.specs.declared.words.TheConstants.{SENTENCES}
use Rattle.report_page.specs.declared.rules.Which.{Which}
use Rattle.report_page.specs.declared.rules.Which.TheVariants.{AreKept, AreBroken, AreUnsettled}
use Rattle.report_page.specs.Cells.{TableRow, texts_in, text_cell, places_cell}

-- the rules are the standard ones: their text is
abbrev pub is_standard : AuditReport → Bool
is_standard report = bytes_eq (rules_text report.rules) STANDARD.now

-- what the standard rule at a place says in words; nothing of a rule of one's own
abbrev pub sentence_of : Bool → ℕ → List ℕ
sentence_of standard place =
    if standard then slice_index_or (texts_in SENTENCES.now) place [] else []

-- the survivors by which a rule is broken
abbrev pub broken_cells : Verdict → TableRow
broken_cells (Broken places) = places_cell [] places.items ∷ []
broken_cells other = []

-- the row of a rule: its name, its text, what it says in words, and the survivors by which it is broken, where it is
abbrev pub rule_row : Bool → ℕ → RuleTree → Verdict → TableRow
rule_row standard place rule verdict =
    text_cell rule.name ∷ text_cell (rule_text rule) ∷ text_cell (sentence_of standard place) ∷ []
    ++ broken_cells verdict

-- the verdict is of this kind
abbrev pub is_answered : Which → Verdict → Bool
is_answered AreKept Kept = true
is_answered AreBroken (Broken places) = true
is_answered AreUnsettled Unsettled = true
is_answered which other = false

-- the row of a rule whose verdict is of this kind
abbrev pub judged_rows : Which → Bool → ℕ → Option RuleTree → Option Verdict → List TableRow
judged_rows which standard place (Some rule) (Some verdict) =
    if is_answered which verdict then rule_row standard place rule verdict ∷ [] else []
judged_rows which standard place rule verdict = []

-- the row of the rule at a place, if its verdict is of this kind
abbrev pub rule_at : Which → Bool → AuditReport → ℕ → List TableRow
rule_at which standard report place =
    judged_rows which standard place (slice_get report.rules place) (slice_get report.verdicts place)

-- the rows of the rules whose verdicts are of this kind, in the order of their text
abbrev pub rule_rows : Which → Bool → AuditReport → List TableRow
rule_rows which standard report = flat_map (rule_at which standard report) (range_with_len 0 (length report.verdicts))
