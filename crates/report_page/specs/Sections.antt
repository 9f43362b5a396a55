-- The sections of the page, each with what it lists and in which order.
use Rattle.std.specs.Prelude.{ℕ, Bool, ◌+◌, if◌then◌else◌, List, [], ◌∷◌, ◌++◌, map, codes, Option, Some, None}
use Rattle.std.specs.List.{flat_map}
use Rattle.std.specs.Fmt.{decimal}
use Rattle.hex.specs.Hex.{encode_lower}
use Rattle.auditor.specs.declared.outcome.Outcome.{Outcome}
use Rattle.auditor.specs.declared.outcome.Outcome.TheVariants as outcome
use Rattle.auditor.specs.Outcomes.{outcome_of}
use Rattle.auditor.specs.Report.{AuditReport}
use Rattle.auditor.specs.ReportText.{report_text}
use Rattle.page_markup.specs.Elements.{attribute, element}
use Rattle.entangled_picture.specs.Document.{picture_of}
use Rattle.page_markup.specs.Escaping.{escaped}
use Rattle.page_markup.specs.declared.names.Tag.TheVariants as tag
use Rattle.page_markup.specs.declared.names.AttributeName.TheVariants as attribute_name
use Rattle.report_page.specs.declared.input.Input.{Input}
use Rattle.report_page.specs.declared.input.What.{What}
use Rattle.report_page.specs.declared.input.What.TheVariants as what
use Rattle.report_page.specs.declared.rules.Which.{Which}
use Rattle.report_page.specs.declared.rules.Which.TheVariants.{AreKept, AreBroken, AreUnsettled}
use Rattle.report_page.specs.declared.words.TheConstants.{VERDICT, SAYS_KEPT, SAYS_FINDINGS, SAYS_UNSETTLED}
use Rattle.report_page.specs.declared.words.TheConstants.{SAYS_BROKEN, LIMITS, AUDITED, STANDARD_RULES, OWN_RULES}
use Rattle.report_page.specs.declared.words.TheConstants.{PROGRAM, INPUT_TITLES, NO_DIGEST, MACHINES, MACHINES_SAY}
use Rattle.report_page.specs.declared.words.TheConstants.{MACHINE_TITLES, FINDINGS, FINDINGS_SAY, ACCUSES, LOSS}
use Rattle.report_page.specs.declared.words.TheConstants.{FINDING_TITLES, GAPS, GAPS_SAY, GAP_TITLES, MAKERS_SAY}
use Rattle.report_page.specs.declared.words.TheConstants.{MAKER_TITLES, NO_GAPS, RULES, RULES_SAY, BROKEN, UNSETTLED}
use Rattle.report_page.specs.declared.words.TheConstants.{KEPT, RULE_TITLES, BROKEN_TITLES, ENTRIES, ENTRIES_SAY}
use Rattle.report_page.specs.declared.words.TheConstants.{ENTRY_TITLES, PICTURE, PICTURE_SAYS, REPORT, REPORT_SAYS}
use Rattle.report_page.specs.Cells.{TableRow, text_cell, texts_in}
use Rattle.report_page.specs.Tables.{paragraph, table, marked_table}
use Rattle.report_page.specs.Machines.{machine_rows}
use Rattle.report_page.specs.Findings.{accusing_rows, loss_rows}
use Rattle.report_page.specs.Gaps.{gap_rows, maker_rows}
use Rattle.report_page.specs.Rules.{is_standard, rule_rows}
use Rattle.report_page.specs.Entries.{entry_rows}

-- a section: its title, and what is in it
abbrev pub section : List ℕ → List ℕ → List ℕ → List ℕ
section id title inner =
    element tag.Section (attribute attribute_name.Id id) (element tag.H2 [] (escaped title) ++ inner)

-- a title within a section
abbrev pub subtitle : List ℕ → List ℕ
subtitle said = element tag.H3 [] (escaped said)

-- paragraphs, one after another
abbrev pub paragraphs : List (List ℕ) → List ℕ
paragraphs texts = flat_map paragraph texts

-- what a report comes to, in a sentence
abbrev pub says : Outcome → List ℕ
says outcome.Kept = SAYS_KEPT.now
says outcome.Findings = SAYS_FINDINGS.now
says outcome.Unsettled = SAYS_UNSETTLED.now
says outcome.Broken = SAYS_BROKEN.now

-- what the report comes to, and what it doesn't say
abbrev pub verdict_section : AuditReport → List ℕ
verdict_section report =
    section (codes "verdict") VERDICT.now
    (element tag.P [] (element tag.Strong [] (escaped (says (outcome_of report)))) ++ paragraphs (texts_in LIMITS.now))

-- what an input is, in words: logs are numbered from 1
abbrev pub what_words : What → List ℕ
what_words what.Roster = codes "roster"
what_words what.Rules = codes "rules"
what_words (what.Log place) = codes "log " ++ decimal (place + 1)

-- the SHA-256 of an input's bytes, in words
abbrev pub digest_words : Option (List ℕ) → List ℕ
digest_words None = NO_DIGEST.now
digest_words (Some digest) = encode_lower digest

-- the row of an input: what it is, its name, and the SHA-256 of its bytes
abbrev pub input_row : Input → TableRow
input_row input =
    text_cell (what_words input.what) ∷ text_cell input.name ∷ text_cell (digest_words input.digest) ∷ []

-- whether the rules are the standard ones, in words
abbrev pub rules_words : Bool → List ℕ
rules_words standard = if standard then STANDARD_RULES.now else OWN_RULES.now

-- what was audited, by which rules, and by which program
abbrev pub audited_section : AuditReport → List Input → List ℕ
audited_section report inputs =
    section (codes "audited") AUDITED.now
    (table report (texts_in INPUT_TITLES.now) (map input_row inputs) ++ paragraph (rules_words (is_standard report))
    ++ paragraph PROGRAM.now)

-- the machines, with the logs that were given for each
abbrev pub machines_section : AuditReport → List ℕ
machines_section report =
    section (codes "machines") MACHINES.now
    (paragraph MACHINES_SAY.now ++ table report (texts_in MACHINE_TITLES.now) (machine_rows report))

-- lines of the report with what to do next, after a title
abbrev pub titled_findings : AuditReport → List ℕ → List TableRow → List ℕ
titled_findings report title rows = subtitle title ++ table report (texts_in FINDING_TITLES.now) rows

-- what accuses, and what may be loss alone
abbrev pub findings_section : AuditReport → List ℕ
findings_section report =
    section (codes "findings") FINDINGS.now
    (paragraph FINDINGS_SAY.now ++ titled_findings report ACCUSES.now (accusing_rows (is_standard report) report)
    ++ titled_findings report LOSS.now (loss_rows report))

-- who names each gap
abbrev pub gap_table : AuditReport → List ℕ
gap_table report = paragraph GAPS_SAY.now ++ table report (texts_in GAP_TITLES.now) (gap_rows report)

-- whose the lost entries could be
abbrev pub maker_table : AuditReport → List ℕ
maker_table report = paragraph MAKERS_SAY.now ++ table report (texts_in MAKER_TITLES.now) (maker_rows report)

-- where there are gaps: who names each, and whose the lost entries could be
abbrev pub some_gaps : AuditReport → List ℕ
some_gaps report = gap_table report ++ maker_table report

-- what is said of these gaps
abbrev pub gaps_in : AuditReport → List (List ℕ) → List ℕ
gaps_in report [] = paragraph NO_GAPS.now
gaps_in report (first ∷ gaps) = some_gaps report

-- the gaps
abbrev pub gaps_section : AuditReport → List ℕ
gaps_section report = section (codes "gaps") GAPS.now (gaps_in report report.graph.gaps)

-- the rules whose verdicts are of one kind, after a title
abbrev pub titled_rules : AuditReport → Bool → List ℕ → Which → List (List ℕ) → List ℕ
titled_rules report standard title which titles =
    subtitle title ++ table report titles (rule_rows which standard report)

-- broken rules, unsettled ones, and kept ones
abbrev pub judged_rules : AuditReport → Bool → List ℕ
judged_rules report standard =
    titled_rules report standard BROKEN.now AreBroken (texts_in BROKEN_TITLES.now)
    ++ titled_rules report standard UNSETTLED.now AreUnsettled (texts_in RULE_TITLES.now)
    ++ titled_rules report standard KEPT.now AreKept (texts_in RULE_TITLES.now)

-- the rules, by their verdicts
abbrev pub rules_section : AuditReport → List ℕ
rules_section report =
    section (codes "rules") RULES.now (paragraph RULES_SAY.now ++ judged_rules report (is_standard report))

-- the entries that survive
abbrev pub entries_section : AuditReport → List ℕ
entries_section report =
    section (codes "entries") ENTRIES.now
    (paragraph ENTRIES_SAY.now ++ marked_table report (texts_in ENTRY_TITLES.now) (entry_rows report))

-- the picture
abbrev pub picture_section : AuditReport → List ℕ
picture_section report =
    section (codes "picture") PICTURE.now
    (paragraph PICTURE_SAYS.now ++ element tag.Div (attribute attribute_name.Class (codes "wide")) (picture_of report))

-- the report as `audit` prints it
abbrev pub report_section : AuditReport → List ℕ
report_section report =
    section (codes "report") REPORT.now
    (paragraph REPORT_SAYS.now ++ element tag.Pre [] (escaped (report_text report)))
