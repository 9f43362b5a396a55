-- A check by any proof says no more than an audit.
use Rattle.log_commands.proofs.Imports
use Imports.{[], AllZip, AndThen, ap, AreChecked, AreJudged, AuditReport, AuditVerdict, before, Bool, check_answer}
use Imports.{CheckReport, ChecksFiles, ChecksLogs, ChecksSayNoMore, Descends, entries_of, EntryGraph, files_read}
use Imports.{GivesCheck, GivesGraph, GivesLogs, GivesReport, inl, inr, is_whole, IsCheckAnswer, IsJudged, IsLessKnown}
use Imports.{IsOfReport, IsProofOf, IsVerdict, length, length-map, Line, List, LogRead, map, nodes_of, Ok, Option}
use Imports.{parents_of, Post, proofs_say_no_more, ragged_of, refl, refusal_answer, RosterRead, Row, row_of}
use Imports.{RulesAreReadInOneWay, RuleSource, RuleTree, SaysNoMore, SealedEntry, source_named, status_is, subst, sym}
use Imports.{Three, three, three_by, Trees, verdict_of, WithGraph, WithRules, ℕ, ◌++◌, ◌∙◌, ◌∷◌, ◌≡◌}
use Rattle.log_commands.proofs.{CheckSound.proof_of, FilesBegun.begun_by, FilesBegun.found_then, FilesBegun.one_begun}
use Rattle.log_commands.proofs.{FilesBegun.same_found, HonestAudits.no_report, OneOrderAnswer.OrderOne}
use Rattle.log_commands.proofs.{OneProof.ones_of, OneProof.same_ends}
use Rattle.audit_proof.specs.declared.fault.Verdict.{Verdict}
use Rattle.rule_engine.specs.declared.verdict.Verdict.TheVariants as audited

-- where a value is the one of which an audit has its verdict, or unknown, a check says no more
less_said : (rows : List Row) (order : ℕ → ℕ → Three) (wholes : ℕ → Bool) (tree : Trees) (v : AuditVerdict)
    (value : Three) → IsLessKnown value (three rows order wholes tree) → IsVerdict rows order wholes tree v →
    SaysNoMore v (verdict_of value)
less_said rows order wholes tree v value (inl unknown) is = inl (ap verdict_of unknown)
less_said rows order wholes tree audited.Kept value (inr same) is = inr (ap verdict_of (same ∙ is))
less_said rows order wholes tree (audited.Broken places) value (inr same) (is, _) = inr (ap verdict_of (same ∙ is))
less_said rows order wholes tree audited.Unsettled value (inr same) is = inr (ap verdict_of (same ∙ is))

module _ (rows : List Row) (graph : EntryGraph SealedEntry) (down : Descends (parents_of graph.links))
    (size : length rows ≡ length graph.survivors) (lines : List Line) (is : IsProofOf (nodes_of graph) lines) where
  -- what a proof gives of a rule
  no_more : (rule : RuleTree) (v : AuditVerdict) (c : Verdict) → IsJudged rows (nodes_of graph) rule.body (Ok v) →
      IsCheckAnswer rows (ragged_of graph.links) lines rule.body (Ok c) → SaysNoMore v c
  no_more rule v c judged checked =
      let order = before (parents_of graph.links) (ragged_of graph.links) in
      let wholes : ℕ → Bool = λ x. is_whole (parents_of graph.links) (ragged_of graph.links) x x in
      let value = three_by rows (ragged_of graph.links) lines rule.body in
      let less = proofs_say_no_more rows (nodes_of graph) lines size down is rule.body in
      subst (SaysNoMore v) (sym checked.1) (less_said rows order wholes rule.body v value less judged.1)

  -- and of all rules
  all_no_more : (rules : List RuleTree) (vs : List AuditVerdict) (cs : List Verdict) →
      AreJudged rows (nodes_of graph) rules vs → AreChecked rows (nodes_of graph) lines rules cs →
      AllZip SaysNoMore vs cs
  all_no_more [] [] [] a b = tt
  all_no_more (r ∷ rules) (v ∷ vs) (c ∷ cs) a b = (no_more r v c a.0 b.0, all_no_more rules vs cs a.1 b.1)
  all_no_more [] [] cs a b = absurd b
  all_no_more (r ∷ rules) (v ∷ vs) cs a b = absurd b
  all_no_more rules vs cs a b = absurd a

-- a check has the report's rules, and of each says no more
record IsNoMoreThan (report : AuditReport) (checked : CheckReport) : Type 0 where
  rules : checked.rules ≡ report.rules
  less : AllZip SaysNoMore report.verdicts checked.verdicts

module _ (order : OrderOne) (rules_one : RulesAreReadInOneWay) (proof : List ℕ) (names : List (List ℕ))
    (report : AuditReport) (checked : CheckReport) where
  -- by logs
  by_logs : (machines : List Post) (source : RuleSource) (rules : List RuleTree) (file : Option (List ℕ))
      (logs : List LogRead) →
      AndThen (GivesGraph (entries_of logs)) (WithGraph machines source rules names logs) (Ok report) →
      ChecksLogs machines source rules proof file logs (Ok checked) → IsNoMoreThan report checked
  by_logs machines source rules file logs audits checks =
      let (graph, gives, by_rules) = found_then audits in
      let (vs, judged, e) = found_then by_rules in
      let (other, graphed, by_graph) = found_then checks in
      let (lines, read, by_lines) = found_then by_graph in
      let (cs, are, f) = found_then by_lines in
      let same = same_found (order.graph (entries_of logs) (Ok graph) (Ok other) gives graphed) in
      let here = subst (λ g. AreJudged (map (row_of machines) g.survivors) (nodes_of g) rules vs) same judged in
      let less = all_no_more (map (row_of machines) other.survivors) other graphed.2.kept.linked.arrows.descends
      (length-map other.survivors (row_of machines)) lines (proof_of proof other file lines read) rules vs cs here are in
      coe 1 0 (i. IsNoMoreThan (same_found e i) (same_found f i)) (record { rules = refl; less = less })

  -- by the files of logs, under one roster
  by_files : (read : RosterRead) (source : RuleSource) (rules : List RuleTree) (files : List (Option (List ℕ)))
      (last : Option (List ℕ)) → WithRules read source rules names files (Ok report) →
      ChecksFiles read source rules proof names (files ++ last ∷ []) (Ok checked) → IsNoMoreThan report checked
  by_files read source rules files last audits (others, end, e, checks) =
      let (logs, keep, with) = found_then audits in
      let (found, also, by_found) = found_then checks in
      let (front, ends) = same_ends files others last end e in
      let here = subst (λ fs. GivesLogs read.roster.machines read.election names fs (Ok found)) (sym front) also in
      let alike = order.logs read.roster.machines read.election names files (Ok found) (Ok logs) here keep in
      by_logs read.roster.machines source rules end logs with
      (subst (λ ls. ChecksLogs read.roster.machines source rules proof end ls (Ok checked)) (same_found alike) by_found)

  -- by all files
  by_all : (roster : List ℕ) (source : RuleSource) (roster_file rules_file : Option (List ℕ))
      (files : List (Option (List ℕ))) (last : Option (List ℕ)) →
      GivesReport roster source names (files_read roster_file source rules_file files) (Ok report) →
      GivesCheck roster source proof names (files_read roster_file source rules_file (files ++ last ∷ []))
      (Ok checked) → IsNoMoreThan report checked
  by_all roster source roster_file rules_file files last audits checks =
      let (b, with) = begun_by (λ read rules rest. WithRules read source rules names rest) roster roster_file rules_file
      files source report audits in
      let (c, found) = begun_by (λ read rules rest. ChecksFiles read source rules proof names rest) roster roster_file
      rules_file (files ++ last ∷ []) source checked checks in
      let (read, rules) = one_begun (ones_of order rules_one) roster source roster_file rules_file b c in
      by_files c.read source c.rules files last
      (coe 0 1 (i. WithRules (read i) source (rules i) names files (Ok report)) with) found

-- ---- the law

pub checks_say_no_more : OrderOne → RulesAreReadInOneWay → ChecksSayNoMore
checks_say_no_more order rules_one roster rules proof logs roster_file rules_file proof_file log_files checked report
    gives (inl (refusal, refuses, e)) is =
    absurd (no_report refusal (subst IsOfReport (status_is checked (refusal_answer refusal) e) is))
checks_say_no_more order rules_one roster rules proof logs roster_file rules_file proof_file log_files checked report
    gives (inr (found, checks, right)) is =
    let no_more = by_all order rules_one proof logs report found roster (source_named rules) roster_file rules_file
    log_files proof_file gives checks in
    record {
      verdicts = found.verdicts;
      less = no_more.less;
      told = right.told ∙ ap (λ (rs : List RuleTree). check_answer rs found.verdicts) no_more.rules;
    }
