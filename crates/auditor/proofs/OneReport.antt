-- Files give at most one report.
use Rattle.auditor.proofs.Imports.{[], AllZip, AuditReport, Bool, Broken, Contents, entries_of, EntryGraph, flat_map}
use Rattle.auditor.proofs.Imports.{GivesReport, GivesVerdicts, is_broken, is_unsettled, List, list_any, LogRead, map}
use Rattle.auditor.proofs.Imports.{nodes_of, Ok, Post, refl, Refusal, report_on, Result, row_of, rule_line, RuleSource}
use Rattle.auditor.proofs.Imports.{RuleTree, SameReport, SameVerdict, SealedEntry, Unsettled, Verdict, WithGraph}
use Rattle.auditor.proofs.Imports.{WithLogs, WithRoster, WithRules, zip, ℕ, ◌∷◌, ◌≡◌}
use Rattle.auditor.proofs.OneStep.{ends_agree, graph_then_one, IsOne, logs_then_one, Ones, roster_then_one}
use Rattle.auditor.proofs.{OneStep.rules_then_one, OneStep.steps_agree, OneVerdict.verdicts_agree}
use Rattle.rule_engine.specs.declared.verdict.Verdict.TheVariants.{Kept}

module _ {A : Type 0} (Same : A → A → Type 0) where
  -- members that have the same lines, beside any names, have them together
  same_lines : {N : Type 0} (f : N × A → List ℕ) → ((n : N) (x y : A) → Same x y → f (n, x) ≡ f (n, y)) →
      (ns : List N) (xs ys : List A) → AllZip Same xs ys → flat_map f (zip ns xs) ≡ flat_map f (zip ns ys)
  same_lines f each [] xs ys same = refl
  same_lines f each (n ∷ ns) [] [] same = refl
  same_lines f each (n ∷ ns) (x ∷ xs) (y ∷ ys) same =
      rw (each n x y same.0, same_lines f each ns xs ys same.1) refl
  same_lines f each ns xs ys same = absurd same

  -- a test that can't distinguish members passes on some of each list or on none of both
  same_any : (p : A → Bool) → ((x y : A) → Same x y → p x ≡ p y) → (xs ys : List A) → AllZip Same xs ys →
      list_any p xs ≡ list_any p ys
  same_any p each [] [] same = refl
  same_any p each (x ∷ xs) (y ∷ ys) same = rw (each x y same.0, same_any p each xs ys same.1) refl
  same_any p each xs ys same = absurd same

-- rules with verdicts that are the same have the same line, and both are broken or neither is, and
-- likewise both unsettled
same_verdict : (machines : List Post) (survivors : List SealedEntry) (v w : Verdict) → SameVerdict v w →
    ((rule : RuleTree) → rule_line machines survivors (rule, v) ≡ rule_line machines survivors (rule, w))
    × (is_broken v ≡ is_broken w) × (is_unsettled v ≡ is_unsettled w)
same_verdict machines survivors Kept Kept same = (λ rule. refl, refl, refl)
same_verdict machines survivors (Broken p) (Broken q) same = (λ rule. rw same, refl, refl)
same_verdict machines survivors Unsettled Unsettled same = (λ rule. refl, refl, refl)
same_verdict machines survivors v w same = absurd same

-- so reports with verdicts that are the same, on one graph, are the same
same_report : (machines : List Post) (names : List (List ℕ)) (logs : List LogRead) (graph : EntryGraph SealedEntry)
    (rules : List RuleTree) (vs ws : List Verdict) → AllZip SameVerdict vs ws →
    SameReport (report_on machines names logs graph rules vs) (report_on machines names logs graph rules ws)
same_report machines names logs graph rules vs ws verdicts =
    let same = same_verdict machines graph.survivors in
    let lines =
    same_lines SameVerdict (rule_line machines graph.survivors) (λ rule v w is. (same v w is).0 rule) rules vs ws
    verdicts in
    let broken = same_any SameVerdict is_broken (λ v w is. (same v w is).1) vs ws verdicts in
    let unsettled = same_any SameVerdict is_unsettled (λ v w is. (same v w is).2) vs ws verdicts in
    record {
      text = rw (lines, broken, unsettled) refl;
      outcome = rw (broken, unsettled) refl;
      graph = refl;
      verdicts = verdicts;
    }

module _ (ones : Ones) (source : RuleSource) (names : List (List ℕ)) where
  -- by one graph the rules give reports that are the same, or one refusal
  by_graph : (machines : List Post) (rules : List RuleTree) (logs : List LogRead) (graph : EntryGraph SealedEntry) →
      IsOne SameReport (WithGraph machines source rules names logs graph)
  by_graph machines rules logs graph =
      let Gives = GivesVerdicts source (map (row_of machines) graph.survivors) (nodes_of graph) rules in
      let Reports : List Verdict → Result AuditReport Refusal → Type 0 =
      λ verdicts answer. answer ≡ Ok (report_on machines names logs graph rules verdicts) in
      steps_agree Gives Gives Reports Reports (AllZip SameVerdict) SameReport
      (verdicts_agree (map (row_of machines) graph.survivors) (nodes_of graph) source rules)
      (λ vs ws is also verdict. ends_agree SameReport (report_on machines names logs graph rules vs)
      (report_on machines names logs graph rules ws) (same_report machines names logs graph rules vs ws verdict))

  -- the files give one report or one refusal
  pub one_report : (roster : List ℕ) (files : Contents) →
      IsOne SameReport (GivesReport roster source names files)
  one_report roster =
      roster_then_one ones SameReport roster (λ read. WithRoster read source names)
      (λ read. rules_then_one SameReport ones.readings source (λ rules files. WithRules read source rules names files)
      (λ rules files. logs_then_one ones SameReport read names files (WithLogs read.roster.machines source rules names)
      (λ logs. graph_then_one ones SameReport (entries_of logs)
      (WithGraph read.roster.machines source rules names logs)
      (λ graph is. by_graph read.roster.machines rules logs graph))))
