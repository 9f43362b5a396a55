-- Files give at most one answer to `watch`.
use Rattle.log_commands.proofs.Imports
use Imports.{[], Agree, agree_equal, Answer, ap, AuditReport, entries_of, Evidence, FilesGiveOneReport, first_then_one}
use Imports.{GivesEvidence, GivesGraph, GivesReport, GivesWatch, inl, IsOne, List, LogRead, logs_then_one, Ok, Ones}
use Imports.{Option, outcome_of, ReadsLogs, ReadsRules, Refusal, Result, roster_then_one, RosterRead, rules_then_one}
use Imports.{RulesAreReadInOneWay, RuleSource, RuleTree, SameReport, status_by, steps_agree, subst, Summary, sym}
use Imports.{watch_answer, watch_lines, Watches, WithLogs, WithRules, ℕ, ◌∙◌, ◌≡◌}
use Rattle.log_commands.proofs.{FilesBegun.found_then, FilesBegun.opened, FilesBegun.same_found, FilesBegun.whole_by}
use Rattle.log_commands.proofs.{OneOrderAnswer.OrderOne, OneProof.ones_of, Summaries.summaries_agree}

-- ---- the evidence

-- what an audit goes on with these logs
abbrev these : RosterRead → List RuleTree → List LogRead → Evidence
these read rules logs = record { machines = read.roster.machines; rules = rules; logs = logs }

-- files give one evidence, or one refusal
pub one_evidence : Ones → (names : List (List ℕ)) (roster : List ℕ) (source : RuleSource)
    (files : List (Option (List ℕ))) → IsOne (λ a b. a ≡ b) (GivesEvidence roster source names files)
one_evidence ones names roster source =
    let Same : Evidence → Evidence → Type 0 = λ a b. a ≡ b in
    roster_then_one ones Same roster (λ read. ReadsRules read source names)
    (λ read. rules_then_one Same ones.readings source (λ rules files. ReadsLogs read rules names files)
    (λ rules files. logs_then_one ones Same read names files (λ logs answer. answer ≡ Ok (these read rules logs))
    (λ logs p q x y. agree_equal p q (x ∙ sym y))))

-- ---- the report

module _ (names : List (List ℕ)) where
  -- what the evidence gives an audit, the files give it
  pub report_by : (roster : List ℕ) (source : RuleSource) (files : List (Option (List ℕ))) (found : Evidence)
      (answer : Result AuditReport Refusal) → GivesEvidence roster source names files (Ok found) →
      WithLogs found.machines source found.rules names found.logs answer →
      GivesReport roster source names files answer
  report_by roster source files found answer reads with =
      let o = opened (λ read rules rest. ReadsLogs read rules names rest) roster source files found reads in
      let (logs, gives, e) = found_then o.next in
      subst (λ fs. GivesReport roster source names fs answer) (sym o.cut)
      (whole_by (λ read rules rest. WithRules read source rules names rest) roster o.first o.second o.rest source o.begun
      answer (inl (
        logs,
        gives,
        subst (λ (ev : Evidence). WithLogs ev.machines source ev.rules names ev.logs answer)
            (same_found e) with,
      )))

-- ---- the answer

-- the same lines with the status of reports that come to the same
same_answer : (ss ts : List Summary) (report other : AuditReport) → watch_lines 1 ss ≡ watch_lines 1 ts →
    outcome_of report ≡ outcome_of other → watch_answer ss report ≡ watch_answer ts other
same_answer ss ts report other lines outcome =
    λ i. record { status = status_by (outcome i); files = []; ahead = 0; output = lines i }

module _ (order : OrderOne) (reports : FilesGiveOneReport) (roster : List ℕ) (source : RuleSource)
    (names : List (List ℕ)) (files : List (Option (List ℕ))) (a : Evidence)
    (is : GivesEvidence roster source names files (Ok a)) where
  -- the evidence gives one answer
  one_watched : IsOne (λ x y. x ≡ y) (Watches source names a)
  one_watched =
      first_then_one (λ x y. x ≡ y) (GivesGraph (entries_of a.logs)) _ (order.graph (entries_of a.logs))
      (λ g left. steps_agree _ _ _ _ (λ ss ts. watch_lines 1 ss ≡ watch_lines 1 ts) (λ x y. x ≡ y)
      (summaries_agree order.graph a.machines a.rules (entries_of a.logs) source)
      (λ ss ts of_a of_b lines. steps_agree _ _ _ _ SameReport (λ x y. x ≡ y)
      (λ r s one other. reports roster source names files r s
      (report_by names roster source files a r is (inl (g, left, one)))
      (report_by names roster source files a s is (inl (g, left, other))))
      (λ report other one two says p q e f.
      agree_equal p q (e ∙ ap Ok (same_answer ss ts report other lines says.outcome) ∙ sym f))))

-- files give one answer of `watch`, or one refusal
pub one_watch : OrderOne → RulesAreReadInOneWay → FilesGiveOneReport → (roster : List ℕ) (source : RuleSource)
    (names : List (List ℕ)) (files : List (Option (List ℕ))) (p q : Result Answer Refusal) →
    GivesWatch roster source names files p → GivesWatch roster source names files q → Agree (λ x y. x ≡ y) p q
one_watch order readings reports roster source names files =
    steps_agree _ _ _ _ (λ a b. a ≡ b) (λ x y. x ≡ y)
    (one_evidence (ones_of order readings) names roster source files)
    (λ a b is also same p q x y. one_watched order reports roster source names files a is p q x
    (subst (λ ev. Watches source names ev q) (sym same) y))
