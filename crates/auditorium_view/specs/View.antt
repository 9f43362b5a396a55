-- What the program answers.
use Rattle.std.specs.Prelude.{◌≡◌, ℕ, ◌+◌, if◌then◌else◌, List, [], ◌∷◌, ◌++◌, length, map, slice_index_or}
use Rattle.std.specs.Prelude.{Option, None}
use Rattle.std.specs.List.{range_with_len}
use Rattle.auditor.specs.Report.{AuditReport}
use Rattle.auditor.specs.Outcomes.{outcome_of}
use Rattle.auditor.specs.Audits.{GivesReport}
use Rattle.auditor.specs.Sources.{RuleSource, standard, in_file}
use Rattle.entangled_picture.specs.Document.{picture_text}
use Rattle.report_page.specs.declared.input.Input.{Input}
use Rattle.report_page.specs.declared.input.What.TheVariants as what
use Rattle.report_page.specs.Page.{page_text}
use Rattle.command_line.specs.Lines.{Answer, OrRefused}
use Rattle.command_line.specs.Reports.{source_named, status_by}
use Rattle.auditorium_view.specs.ViewWords.{ViewRequest}

-- the digest at a place, if it is known
abbrev pub known_digest : List (Option (List ℕ)) → ℕ → Option (List ℕ)
known_digest digests place = slice_index_or digests place None

-- the rules, where they are in a file, which is read after the roster
abbrev pub rule_inputs : List (Option (List ℕ)) → RuleSource → List Input
rule_inputs digests standard = []
rule_inputs digests (in_file name) = record { what = what.Rules; name = name; digest = known_digest digests 1 } ∷ []

-- how many files are read before the logs
abbrev pub files_before : RuleSource → ℕ
files_before standard = 1
files_before (in_file name) = 2

-- the log at a place, before which these many other files are read
abbrev pub log_input : List (Option (List ℕ)) → ℕ → List (List ℕ) → ℕ → Input
log_input digests before logs place = record {
  what = what.Log place;
  name = slice_index_or logs place [];
  digest = known_digest digests (before + place);
}

-- the logs
abbrev pub log_inputs : List (Option (List ℕ)) → ℕ → List (List ℕ) → List Input
log_inputs digests before logs = map (log_input digests before logs) (range_with_len 0 (length logs))

-- the roster
abbrev pub roster_input : List (Option (List ℕ)) → List ℕ → Input
roster_input digests name = record { what = what.Roster; name = name; digest = known_digest digests 0 }

-- the inputs of an audit: the roster, the rules where they are in a file, and the logs
abbrev pub inputs_of : List (Option (List ℕ)) → ViewRequest → List Input
inputs_of digests request =
    roster_input digests request.roster ∷ [] ++ rule_inputs digests (source_named request.rules)
    ++ log_inputs digests (files_before (source_named request.rules)) request.logs

-- what is shown of a report: its picture alone, or its page
abbrev pub view_text : List (Option (List ℕ)) → ViewRequest → AuditReport → List ℕ
view_text digests request report =
    if request.picture then picture_text report else page_text report (inputs_of digests request)

-- the answer of a report
abbrev pub view_answer : List (Option (List ℕ)) → ViewRequest → AuditReport → Answer
view_answer digests request report = record {
  status = status_by (outcome_of report);
  files = [];
  ahead = 0;
  output = view_text digests request report;
}

-- The answer to a request over these files: what is shown of the report that they give, or the first
-- refusal. The digests are those that are to be shown.
abbrev pub IsViewOf : List (Option (List ℕ)) → ViewRequest → List (Option (List ℕ)) → Answer → Type 0
IsViewOf digests request files =
    OrRefused (GivesReport request.roster (source_named request.rules) request.logs files)
    (λ report answer. answer ≡ view_answer digests request report)
