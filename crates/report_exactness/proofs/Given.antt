-- The survivors of a report that files give are sealed, and of one election.
use Rattle.auditor.proofs.Makers.{a_log_each, logs_have_makers, survivors_have_makers}
use Rattle.auditor.specs.Audits.{AndThen, GivesReport, GivesVerdicts, RulesThen, WithGraph, WithLogs}
use Rattle.auditor.specs.{Nodes.nodes_of, Report.AuditReport, Report.IsReport, Report.report_on}
use Rattle.auditor.specs.Sources.{GivesRules, in_file, RuleSource, standard}
use Rattle.canonical_sexp.specs.declared.sexp.Sexp.{Sexp}
use Rattle.entry_format.specs.{Nodes.node_of_sealed, SealedEntry.SealedEntry, Sealing.IsSealed}
use Rattle.entry_format.specs.declared.plain.EntryFault.{EntryFault}
use Rattle.entry_graph.proofs.DistinctFacts.{distinct_given}
use Rattle.entry_graph.specs.{EntryGraph.EntryGraph, Given.distinct}
use Rattle.evidence.specs.Graphs.{entries_of, entries_of_records, GivesGraph}
use Rattle.evidence.specs.{Logs.GivesLogs, Refusal.Refusal, RosterFile.GivesRoster}
use Rattle.log_files.specs.{LogFile.IsSealedLogOf, LogText.EachGives, LogText.Gives, LogText.kept_of, Logs.LogRead}
use Rattle.log_files.specs.{SealedLog.IsReadSealed, declared.sealed_log.Kept.Kept}
use Rattle.roster.specs.declared.post.Post.{Post}
use Rattle.rule_engine.specs.{Judged.AreJudged, declared.verdict.Verdict.Verdict}
use Rattle.rule_language.specs.{Standard.standard_rules, Trees.RuleTree}
use Rattle.std.proofs.Common.{[], Err, inl, inr, List, map, None, Ok, Option, Result, Some, subst, sym, ℕ, ◌++◌, ◌+◌}
use Rattle.std.proofs.Common.{◌∷◌, ◌≡◌}
use Rattle.std.proofs.lemmas.List.Elements.{All-contains, All-from_recursion}
use Rattle.std.specs.List.{AllByRecursion as ByRecursion, Contains}
use Rattle.survivor_rows.specs.Rows.{row_of}

-- the entry is sealed, and of the election
pub record IsOf (election : List ℕ) (sealed : SealedEntry) : Type 0 where
  pub kept : IsSealed sealed
  pub one : sealed.entry.election ≡ election

-- so are these, one after another
abbrev Each : List ℕ → List SealedEntry → Type 0
Each election = ByRecursion (IsOf election)

each_append : (election : List ℕ) (xs ys : List SealedEntry) → Each election xs → Each election ys →
    Each election (xs ++ ys)
each_append election [] ys p q = q
each_append election (x ∷ xs) ys p q = (p.0, each_append election xs ys p.1 q)

-- the entries that a log keeps are
kept_each : (machines : List Post) (election : List ℕ) (place : ℕ) (trees : List Sexp)
    (readings : List (Result Kept EntryFault)) → EachGives (IsReadSealed machines election) place trees readings →
    Each election (entries_of_records (kept_of readings))
kept_each machines election place [] [] gives = tt
kept_each machines election place [] (r ∷ readings) gives = absurd gives
kept_each machines election place (t ∷ trees) [] gives = absurd gives
kept_each machines election place (t ∷ trees) (Err fault ∷ readings) (_, rest) =
    kept_each machines election (place + 1) trees readings rest
kept_each machines election place (t ∷ trees) (Ok kept ∷ readings) (gives, rest) =
    (valid gives, kept_each machines election (place + 1) trees readings rest)
  where
    valid : Gives (IsReadSealed machines election) place t (Ok kept) → IsOf election kept.entry
    valid (inl (members, sent, e, read)) = record { kept = read.2.kept; one = read.2.of_election }
    valid (inr (none, e)) = cc

log_each : (machines : List Post) (election : List ℕ) (log : LogRead) (file : Option (List ℕ)) →
    IsSealedLogOf machines election log file → Each election (entries_of_records log.kept)
log_each machines election log None is = absurd is
log_each machines election log (Some bytes) is =
    let says = is.1.says in
    let P : List Kept → Type 0 = λ kept. Each election (entries_of_records kept) in
    subst P (sym says.keeps) (kept_each machines election 0 says.trees says.readings says.gives)

logs_each : (machines : List Post) (election : List ℕ) (names : List (List ℕ)) (files : List (Option (List ℕ)))
    (logs : List LogRead) → GivesLogs machines election names files (Ok logs) → Each election (entries_of logs)
logs_each machines election [] [] [] gives = tt
logs_each machines election [] [] (log ∷ logs) gives = absurd gives
logs_each machines election [] (file ∷ files) logs gives = absurd gives
logs_each machines election (name ∷ names) [] logs gives = absurd gives
logs_each machines election (name ∷ names) (file ∷ files) [] gives = absurd gives
logs_each machines election (name ∷ names) (file ∷ files) (log ∷ logs) gives =
    each_append election (entries_of_records log.kept) (entries_of logs)
    (log_each machines election log file gives.0)
    (logs_each machines election names files logs gives.1)

-- a step that found something
both_found : {A B : Type 0} (First : Result A Refusal → Type 0) (Next : A → Result B Refusal → Type 0) (b : B) →
    AndThen First Next (Ok b) → (found : A) × First (Ok found) × Next found (Ok b)
both_found First Next b (inl found) = found
both_found First Next b (inr (refusal, first, is)) = cc

-- a report, and of which election its survivors are
pub record IsGiven (report : AuditReport) : Type 0 where
  pub is : IsReport report
  pub election : List ℕ
  pub each : (e : SealedEntry) → Contains report.graph.survivors e → IsOf election e

-- the report of what logs give
pub given_by : (machines : List Post) (election : List ℕ) (names : List (List ℕ)) (files : List (Option (List ℕ)))
    (logs : List LogRead) (graph : EntryGraph SealedEntry) (rules : List RuleTree) (verdicts : List Verdict) →
    GivesLogs machines election names files (Ok logs) → GivesGraph (entries_of logs) (Ok graph) →
    AreJudged (map (row_of machines) graph.survivors) (nodes_of graph) rules verdicts →
    IsGiven (report_on machines names logs graph rules verdicts)
given_by machines election names files logs graph rules verdicts gives_logs gives_graph judged = record {
  is = record {
    a_log_each = a_log_each machines election names files logs gives_logs;
    makers = survivors_have_makers machines (entries_of logs) graph
        (logs_have_makers machines election names files logs gives_logs) gives_graph;
    graphed = gives_graph;
    judged = judged;
  };
  election = election;
  each = λ e there.
      let kept = (gives_graph.2.members e).0 there in
      All-contains (IsOf election) (entries_of logs) e
      (All-from_recursion (IsOf election) (entries_of logs) (logs_each machines election names files logs gives_logs))
      (distinct_given node_of_sealed (entries_of logs) e kept.0);
}

from_logs : (machines : List Post) (election : List ℕ) (source : RuleSource) (rules : List RuleTree)
    (names : List (List ℕ)) (files : List (Option (List ℕ))) (report : AuditReport) →
    AndThen (GivesLogs machines election names files) (WithLogs machines source rules names) (Ok report) → IsGiven report
from_logs machines election source rules names files report gives =
    let (logs, gives_logs, with_logs) =
    both_found (GivesLogs machines election names files) (WithLogs machines source rules names) report gives in
    let (graph, gives_graph, with_graph) =
    both_found (GivesGraph (entries_of logs)) (WithGraph machines source rules names logs) report with_logs in
    let (verdicts, judged, same) =
    both_found (GivesVerdicts source (map (row_of machines) graph.survivors) (nodes_of graph) rules)
    (λ verdicts answer. answer ≡ Ok (report_on machines names logs graph rules verdicts)) report with_graph in
    let here : report_on machines names logs graph rules verdicts ≡ report = cc in
    subst IsGiven here
    (given_by machines election names files logs graph rules verdicts gives_logs gives_graph judged)

-- so it is of each report that files give
module _ (roster : List ℕ) (names : List (List ℕ)) (report : AuditReport) where
  with_file : (source : RuleSource) (file : Option (List ℕ)) (files : List (Option (List ℕ))) →
      AndThen (GivesRoster roster file) (λ read. RulesThen source (λ rules files.
      AndThen (GivesLogs read.roster.machines read.election names files)
      (WithLogs read.roster.machines source rules names)) files) (Ok report) → IsGiven report
  with_file standard file files gives =
      let (read, found, rest) =
      both_found (GivesRoster roster file)
      (λ read. AndThen (GivesLogs read.roster.machines read.election names files)
      (WithLogs read.roster.machines standard standard_rules names)) report gives in
      from_logs read.roster.machines read.election standard standard_rules names files report rest
  with_file (in_file name) file [] gives =
      let (read, found, rest) = both_found (GivesRoster roster file) (λ read answer. ⊥) report gives in absurd rest
  with_file (in_file name) file (text ∷ files) gives =
      let (read, found, on) =
      both_found (GivesRoster roster file)
      (λ read. AndThen (GivesRules name text) (λ rules. AndThen
      (GivesLogs read.roster.machines read.election names files)
      (WithLogs read.roster.machines (in_file name) rules names))) report gives in
      let (rules, are, rest) =
      both_found (GivesRules name text)
      (λ rules. AndThen (GivesLogs read.roster.machines read.election names files)
      (WithLogs read.roster.machines (in_file name) rules names)) report on in
      from_logs read.roster.machines read.election (in_file name) rules names files report rest

  pub given : (source : RuleSource) (files : List (Option (List ℕ))) →
      GivesReport roster source names files (Ok report) → IsGiven report
  given source [] gives = absurd gives
  given source (file ∷ files) gives = with_file source file files gives
