-- A check by the proof that `prove` writes agrees with an audit.
use Rattle.log_commands.proofs.Imports
use Imports.{[], absent, Answer, ap, AreChecked, AreJudged, AuditReport, AuditVerdict, canonical_full, check_answer}
use Imports.{CheckReport, ChecksAgreeWithAudits, ChecksFiles, ChecksLogs, entries_of, EntryGraph, Err, files_read}
use Imports.{full_proofs_say_all, GivesCheck, GivesGraph, GivesMade, GivesReport, inl, inr, IsCanonicalProof}
use Imports.{IsCanonicalText, IsCheckAnswer, IsCheckOver, IsJudged, length, length-map, Line, List, LogRead, map}
use Imports.{max_proof, nodes_of, Ok, Option, parents_of, Post, proof_answer, ProofMade, ProvesFiles, ragged_of, refl}
use Imports.{Refusal, refusal_answer, refused, RosterRead, Row, row_of, RuleSource, RuleTree, SealedEntry, Some}
use Imports.{source_named, subst, sym, three_by, three_in, verdict_of, WithGraph, without_entries, WithRules, ℕ, ◌++◌}
use Imports.{◌∙◌, ◌∷◌, ◌≡◌, ◌≤◌}
use Rattle.log_commands.proofs.{FilesBegun.begun_by, FilesBegun.found_then, FilesBegun.same_found, FilesBegun.whole_by}
use Rattle.log_commands.proofs.{OneOrderAnswer.OrderOne, OneProof.one_check, OneProof.ProofOne}
use Rattle.log_commands.proofs.{SoundReports.given_is_sound}
use Rattle.rule_engine.specs.declared.verdict.Verdict.TheVariants as audited

-- ---- a rule's verdict

module _ (rows : List Row) (graph : EntryGraph SealedEntry) (lines : List Line) (size : length rows ≡ length graph.survivors)
    (given : List SealedEntry) (gives : GivesGraph given (Ok graph))
    (canonical : IsCanonicalProof (nodes_of graph) lines) where
  -- by the canonical proof a rule has the value that it has by the graph
  value_same : (rule : RuleTree) →
      three_by rows (ragged_of graph.links) lines rule.body
      ≡ three_in rows (parents_of graph.links) (ragged_of graph.links) rule.body
  value_same rule =
      full_proofs_say_all rows (nodes_of graph) lines size gives.2.kept.linked.arrows.descends canonical.proof
      (canonical_full (nodes_of graph) lines canonical) rule.body

  -- so it has the verdict of an audit
  checked_as : (rule : RuleTree) (v : AuditVerdict) → IsJudged rows (nodes_of graph) rule.body (Ok v) →
      IsCheckAnswer rows (ragged_of graph.links) lines rule.body (Ok (without_entries v))
  checked_as rule audited.Kept (narrow, is) = (narrow, sym (ap verdict_of (value_same rule ∙ is)))
  checked_as rule (audited.Broken places) (narrow, (is, _)) = (narrow, sym (ap verdict_of (value_same rule ∙ is)))
  checked_as rule audited.Unsettled (narrow, is) = (narrow, sym (ap verdict_of (value_same rule ∙ is)))

  all_checked : (rules : List RuleTree) (vs : List AuditVerdict) → AreJudged rows (nodes_of graph) rules vs →
      AreChecked rows (nodes_of graph) lines rules (map without_entries vs)
  all_checked [] [] judged = tt
  all_checked (r ∷ rules) (v ∷ vs) judged = (checked_as r v judged.0, all_checked rules vs judged.1)
  all_checked rules vs judged = absurd judged

-- ---- what the files give a check

-- the report of a check with the verdicts of an audit's
abbrev pub check_of : AuditReport → CheckReport
check_of report = record {
  machines = report.machines;
  survivors = report.graph.survivors;
  rules = report.rules;
  verdicts = map without_entries report.verdicts;
}

module _ (order : OrderOne) (one : ProofOne) (proof : List ℕ) (names : List (List ℕ)) (made : ProofMade)
    (report : AuditReport) where
  -- by the graph of what the logs keep
  graph_gives : (machines : List Post) (source : RuleSource) (rules : List RuleTree) (logs : List LogRead)
      (graph : EntryGraph SealedEntry) → GivesGraph (entries_of logs) (Ok graph) →
      IsCanonicalText (nodes_of graph) made.text → length made.text ≤ max_proof →
      WithGraph machines source rules names logs graph (Ok report) →
      ChecksLogs machines source rules proof (Some made.text) logs (Ok (check_of report))
  graph_gives machines source rules logs graph gives (lines, canonical, text) fits audits =
      let (vs, judged, e) = found_then audits in
      let checked = all_checked _ graph lines (length-map graph.survivors (row_of machines)) (entries_of logs) gives
      canonical rules vs judged in
      subst (λ r. ChecksLogs machines source rules proof (Some made.text) logs (Ok (check_of r))) (sym (same_found e))
      (inl (graph, gives, inl (lines, (fits, (text, canonical.proof)), inl (map without_entries vs, checked, refl))))

  -- by the files of logs, under one roster
  files_give : (read : RosterRead) (source : RuleSource) (rules : List RuleTree) (files : List (Option (List ℕ))) →
      ProvesFiles read proof names files (Ok made) → WithRules read source rules names files (Ok report) →
      ChecksFiles read source rules proof names (files ++ Some made.text ∷ []) (Ok (check_of report))
  files_give read source rules files proves audits =
      let (found, keep, by_found) = found_then proves in
      let (graph, gives, (count, canonical, fits)) = found_then by_found in
      let (logs, also, by_logs) = found_then audits in
      let (other, graphed, with) = found_then by_logs in
      let alike = order.logs read.roster.machines read.election names files (Ok found) (Ok logs) keep also in
      let moved = subst (λ ls. GivesGraph (entries_of ls) (Ok graph)) (same_found alike) gives in
      let same = same_found (order.graph (entries_of logs) (Ok graph) (Ok other) moved graphed) in
      let text = subst (λ g. IsCanonicalText (nodes_of g) made.text) same canonical in
      let checks = graph_gives read.roster.machines source rules logs other graphed text fits with in
      (files, Some made.text, refl, inl (logs, also, checks))

  -- by all files
  all_give : (roster : List ℕ) (source : RuleSource) (roster_file rules_file : Option (List ℕ))
      (files : List (Option (List ℕ))) → GivesMade roster proof names (roster_file ∷ files) (Ok made) →
      GivesReport roster source names (files_read roster_file source rules_file files) (Ok report) →
      GivesCheck roster source proof names (files_read roster_file source rules_file (files ++ Some made.text ∷ []))
      (Ok (check_of report))
  all_give roster source roster_file rules_file files makes audits =
      let (read, found, proves) = found_then makes in
      let (b, with) = begun_by (λ read rules rest. WithRules read source rules names rest) roster roster_file rules_file
      files source report audits in
      let reads = same_found (order.roster roster roster_file (Ok read) (Ok b.read) found b.given) in
      whole_by (λ read rules rest. ChecksFiles read source rules proof names rest) roster roster_file rules_file
      (files ++ Some made.text ∷ []) source b (Ok (check_of report))
      (files_give b.read source b.rules files
      (subst (λ (r : RosterRead). ProvesFiles r proof names files (Ok made)) reads proves) with)

-- ---- the law

-- an answer that writes a file is no refusal
no_refusal : (refusal : Refusal) (name text : List ℕ) → (refusal_answer refusal).files ≡ (name, text) ∷ [] → ⊥
no_refusal (absent file) name text e = cc
no_refusal (refused file place cause) name text e = cc

-- what is written is what was made
written_text : (proof text : List ℕ) (made : ProofMade) → (proof_answer proof made).files ≡ (proof, text) ∷ [] →
    made.text ≡ text
written_text proof text made e =
    let file : (proof, made.text) ≡ (proof, text) = cc in ap (λ (named : List ℕ × List ℕ). named.1) file

pub checks_agree : OrderOne → ProofOne → ChecksAgreeWithAudits
checks_agree order one roster rules proof logs roster_file rules_file log_files text proved checked report
    (inl (refusal, gives, e)) writes audits checks =
    absurd (no_refusal refusal proof text (sym (ap (λ (a : Answer). a.files) e) ∙ writes))
checks_agree order one roster rules proof logs roster_file rules_file log_files text proved checked report
    (inr (made, gives, e)) writes audits checks =
    let source = source_named rules in
    let same : made.text ≡ text = written_text proof text made (sym (ap (λ (a : Answer). a.files) e) ∙ writes) in
    let found = all_give order one proof logs made report roster source roster_file rules_file log_files gives audits in
    let here = subst (λ (t : List ℕ). GivesCheck roster source proof logs
    (files_read roster_file source rules_file (log_files ++ Some t ∷ [])) (Ok (check_of report))) same found in
    (by _ here checks, given_is_sound roster source logs _ report audits)
  where
    -- by what the check answers over files that give this report
    by : (files : List (Option (List ℕ))) →
        GivesCheck roster (source_named rules) proof logs files (Ok (check_of report)) →
        IsCheckOver roster rules proof logs files checked →
        checked ≡ check_answer report.rules (map without_entries report.verdicts)
    by files found (inl (refusal, gives, e)) =
        absurd (one_check order one roster (source_named rules) proof logs files (Err refusal) (Ok (check_of report))
        gives found)
    by files found (inr (other, gives, is)) =
        let same : other ≡ check_of report =
        one_check order one roster (source_named rules) proof logs files (Ok other) (Ok (check_of report)) gives found in
        is.told ∙ ap (λ r. check_answer r.rules r.verdicts) same
