-- The command `check`.
use Rattle.std.specs.Prelude.{◌≡◌, ℕ, List, [], ◌∷◌, ◌++◌, map, codes, Option}
use Rattle.std.specs.Prelude.{Result, Ok, Err, Bool, true, false, if◌then◌else◌}
use Rattle.std.specs.List.{AllZip, flat_map, list_any, zip}
use Rattle.precedence.specs.Graph.{Graph}
use Rattle.roster.specs.declared.post.Post.{Post}
use Rattle.entry_format.specs.SealedEntry.{SealedEntry}
use Rattle.entry_format.specs.declared.plain.Plain.{Plain}
use Rattle.rule_language.specs.declared.row.Row.{Row}
use Rattle.rule_language.specs.Trees.{RuleTree}
use Rattle.audit_proof.specs.declared.fault.Verdict.{Verdict}
use Rattle.audit_proof.specs.declared.fault.Verdict.TheVariants.{Kept, Broken, Unsettled}
use Rattle.audit_proof.specs.Answers.{IsCheckAnswer}
use Rattle.audit_proof.specs.Lines.{Line}
use Rattle.evidence.specs.Refusal.{Refusal, refused}
use Rattle.evidence.specs.RosterFile.{GivesRoster}
use Rattle.evidence.specs.Logs.{GivesLogs}
use Rattle.evidence.specs.Graphs.{entries_of, GivesGraph}
use Rattle.survivor_rows.specs.Rows.{row_of}
use Rattle.rule_engine.specs.Judged.{IsFirstTooWide}
use Rattle.auditor.specs.Nodes.{nodes_of}
use Rattle.auditor.specs.Audits.{AndThen, FileThen, RulesThen}
use Rattle.auditor.specs.Sources.{RuleSource, source_word, rule_files}
use Rattle.log_files.specs.Lines.{line}
use Rattle.command_line.specs.declared.status.Status.{Status}
use Rattle.command_line.specs.declared.status.Status.TheVariants as status
use Rattle.command_line.specs.Lines.{Answer, OrRefused}
use Rattle.command_line.specs.WordForms.{AreLogs}
use Rattle.log_commands.specs.Audit.{Completes, HoldsOf}
use Rattle.command_line.specs.Reports.{source_named}
use Rattle.log_commands.specs.ProofFile.{GivesProof}
use Rattle.command_line.specs.CommandParts.{CommandParts}

-- the machines, the survivors of the entries that the logs keep, and the rules with their verdicts
pub record CheckReport : Type 0 where
  pub machines : List Post
  pub survivors : List SealedEntry
  pub rules : List RuleTree
  pub verdicts : List Verdict

-- one verdict for each rule, by the lines of a proof
abbrev pub AreChecked : List Row → Graph → List Line → List RuleTree → List Verdict → Type 0
AreChecked rows graph lines =
    AllZip (λ rule verdict. IsCheckAnswer rows graph.ragged lines rule.body (Ok verdict))

-- what rules give by a proof: a verdict for each, or the refusal of the first that is too wide
abbrev pub GivesChecked : RuleSource → List Row → Graph → List Line → List RuleTree →
    Result (List Verdict) Refusal → Type 0
GivesChecked source rows graph lines rules (Ok verdicts) =
    AreChecked rows graph lines rules verdicts
GivesChecked source rows graph lines rules (Err refusal) =
    (place : ℕ) × IsFirstTooWide rows rules place
    × (refusal ≡ refused (source_word source) place (codes "TooWide"))

-- the files that a check reads, in order
abbrev pub check_files : List ℕ → RuleSource → List ℕ → List (List ℕ) → List (List ℕ)
check_files roster source proof logs = roster ∷ (rule_files source ++ (logs ++ proof ∷ []))

-- what they give: the roster, the rules, the logs, the graph of the entries that these keep, the
-- lines of the proof for it, which is the last file, and a verdict for each rule by them; or the
-- first refusal
abbrev pub GivesCheck : List ℕ → RuleSource → List ℕ → List (List ℕ) → List (Option (List ℕ)) →
    Result CheckReport Refusal → Type 0
GivesCheck roster source proof names =
    FileThen (GivesRoster roster) (λ read. RulesThen source (λ rules files answer.
    (of_logs : List (Option (List ℕ))) × (last : Option (List ℕ)) × (files ≡ of_logs ++ last ∷ [])
    × AndThen (GivesLogs read.roster.machines read.election names of_logs) (λ logs.
    AndThen (GivesGraph (entries_of logs)) (λ graph.
    AndThen (GivesProof proof (nodes_of graph) last) (λ lines.
    AndThen (GivesChecked source (map (row_of read.roster.machines) graph.survivors) (nodes_of graph) lines rules)
    (λ verdicts other. other ≡ Ok (record {
      machines = read.roster.machines;
      survivors = graph.survivors;
      rules = rules;
      verdicts = verdicts;
    }))))) answer))

-- whether a rule is broken
abbrev pub says_broken : Verdict → Bool
says_broken Broken = true
says_broken other = false

-- whether a rule is unsettled
abbrev pub says_unsettled : Verdict → Bool
says_unsettled Unsettled = true
says_unsettled other = false

-- the verdict on all: broken where some rule is, else unsettled where some is
abbrev pub verdict_on_all : List Verdict → Verdict
verdict_on_all verdicts =
    if list_any says_broken verdicts then Broken
    else if list_any says_unsettled verdicts then Unsettled else Kept

-- the status of a verdict on all rules
abbrev pub checked_status : Verdict → Status
checked_status Kept = status.Done
checked_status Broken = status.Broken
checked_status Unsettled = status.Unsettled

-- the word of a verdict on all rules
abbrev pub checked_word : Verdict → List ℕ
checked_word Kept = codes "kept"
checked_word Broken = codes "broken"
checked_word Unsettled = codes "unsettled"

-- the line of a rule with its verdict
abbrev pub checked_line : RuleTree × Verdict → List ℕ
checked_line checked = line (checked_word checked.1 ++ codes " " ++ checked.0.name)

-- a line for each rule, and one for all
abbrev pub checked_text : List RuleTree → List Verdict → List ℕ
checked_text rules verdicts =
    flat_map checked_line (zip rules verdicts)
    ++ line (codes "verdict " ++ checked_word (verdict_on_all verdicts))

-- the answer of rules with their verdicts
abbrev pub check_answer : List RuleTree → List Verdict → Answer
check_answer rules verdicts = record {
  status = checked_status (verdict_on_all verdicts);
  files = [];
  ahead = 0;
  output = checked_text rules verdicts;
}

-- The answer is that of the report. Whoever made the proof, a rule that is called kept holds
-- whatever was lost, and one that is called broken holds in no case. `some`: there is a way to complete
-- the survivors, so neither is said of nothing.
pub record IsCheckOf (report : CheckReport) (answer : Answer) : Type 0 where
  pub kept : AllZip
      (λ rule is. is ≡ Kept → (G : List Plain) → Completes report.machines report.survivors G →
      HoldsOf report.machines report.survivors G rule)
      report.rules report.verdicts
  pub broken : AllZip
      (λ rule is. is ≡ Broken → (G : List Plain) → Completes report.machines report.survivors G →
      ¬ HoldsOf report.machines report.survivors G rule)
      report.rules report.verdicts
  pub some : (G : List Plain) × Completes report.machines report.survivors G
  pub told : answer ≡ check_answer report.rules report.verdicts

-- the answer for these files, or the first refusal
abbrev pub IsCheckOver : List ℕ → List ℕ → List ℕ → List (List ℕ) → List (Option (List ℕ)) → Answer →
    Type 0
IsCheckOver roster rules proof logs files answer =
    OrRefused (GivesCheck roster (source_named rules) proof logs files) IsCheckOf answer

-- `check ROSTER RULES PROOF LOG..`; the word `standard` names rules that no file has
abbrev pub check_parts : List ℕ → List ℕ → List ℕ → List (List ℕ) → CommandParts
check_parts roster rules proof logs = record {
  words = codes "check" ∷ roster ∷ rules ∷ proof ∷ logs;
  IsAllowed = AreLogs logs;
  files = check_files roster (source_named rules) proof logs;
  IsAnswer = IsCheckOver roster rules proof logs;
  AreAccepted = λ files. (report : CheckReport)
      × GivesCheck roster (source_named rules) proof logs files (Ok report);
  statuses = status.Done ∷ status.Unsettled ∷ status.Broken ∷ status.Refused ∷ status.Absent ∷ [];
  absence = status.Absent;
}
