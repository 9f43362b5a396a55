-- The laws of audits of what is left of an honest place.
use Rattle.honest_places.proofs.Imports
use Imports.{[], All-contains, AllZip-long, ap, AreAllFilesOf, AreFilesOf, AreJudged, AreReadIn, AreWholeFilesOf}
use Imports.{AuditReport, Bool, break_line, Clean, codes, Contains, Contains-filter, Contains-map_cases, Contains-one}
use Imports.{Distinct, election_of, End, EndClean, entries_of, Err, false, files_read, filter, fork_lines, GivesGraph}
use Imports.{GivesLogs, GivesRoster, GivesRules, HasNoDouble, HaveAll, in_file, inl, inr, is_broken, IsAllGiven}
use Imports.{IsCutAt, IsEntryGraph, IsFirstTooWide, IsHonest, IsHonestGraph, IsHonestRefusal, IsHonestReport}
use Imports.{IsHonestWorld, IsOpenFor, IsReadIn, IsRosterOf, IsSomeAnd, IsWholeIn, kind_of, List, LogRead, Malformed}
use Imports.{map, MayBeEither, member_at, node_of, node_of_sealed, nodes_of, NoEarlyEnd, None, Ok, Option, order_back}
use Imports.{p3_body, parents_of, Plain, plain_of, plains, Post, Precedes, ragged_of, refl, Refusal, refused}
use Imports.{refused_lines, report_on, reports_are_exact, Result, roster_of, RosterRead, Row, row_of, row_said, rows_of}
use Imports.{RuleSource, RuleTree, SaysAllKept, SaysNoneBroken, Script, SealedEntry, sent_in, session_of, Some}
use Imports.{source_word, standard, standard_rules, stray_lines, subst, sym, tree_then, Trees, true}
use Imports.{unknown_only_by_gaps, Verdict, WereSentIn, Why, WithRoster, WithRules, World, ℕ, ◌∙◌, ◌∷◌, ◌≡◌, ◌≢◌, ◌⊎◌}
use Rattle.auditor.specs.Audits.{AndThen, GivesReport, GivesVerdicts, WithGraph, WithLogs}
use Rattle.honest_places.proofs.HonestFiles.{graph_is_given, graph_is_honest, graph_shows_distinct}
use Rattle.honest_places.proofs.Judged.{all_kept, comes_to, IsOn, none_broken, outcome_not_broken, torn_found}
use Rattle.honest_places.proofs.LeftFileFacts.{each_is_read, files_are_given, files_are_read, files_have_all}
use Rattle.honest_places.proofs.LeftFileFacts.{given_each, IsOfFile}
use Rattle.honest_places.proofs.RosterGiven.{read_same, roster_not_refused}
use Rattle.honest_places.proofs.RuleAudits.{honest_audits_never_say_broken, honest_audits_say_kept}
use Rattle.honest_places.proofs.RuleScripts.{scripts_are_never_too_wide, scripts_have_no_early_end}
use Rattle.honest_places.proofs.{Given.all_given, Lists.zip_more, Lists.zip_right, LogScripts.scripts_are_honest}
use Rattle.honest_places.proofs.{ReadLogs.whole_in, RuleScripts.scripts_lead_to_honest_places}
use Rattle.rule_engine.specs.declared.verdict.Verdict.TheVariants as verdict
use Rattle.rule_language.specs.declared.form.Form.TheVariants as form
use Rattle.rule_language.specs.declared.kind.Kind.TheVariants as kind
use Rattle.honest_places.specs.ReportLaws as laws

-- ---- what an audit reads first

-- where bytes are cut no end is malformed
not_malformed : (place size : ℕ) (end : End) → IsCutAt place size end → (at : ℕ) (why : Why) → end ≢ Malformed at why
not_malformed place size end cut at why is = subst (IsCutAt place size) is cut

-- the rules that an audit goes by: the standard ones, or those that the file gives
abbrev AreRulesOf : RuleSource → Option (List ℕ) → List RuleTree → Type 0
AreRulesOf standard file rules = rules ≡ standard_rules
AreRulesOf (in_file name) file rules = GivesRules name file (Ok rules)

-- what is so of a refusal of the first of two steps, and of each answer of the next one after what the
-- first found, is so of what both answer
after : {A B : Type 0} (First : Result A Refusal → Type 0) (Next : A → Result B Refusal → Type 0)
    (P : Result B Refusal → Type 0) → ((refusal : Refusal) → First (Err refusal) → P (Err refusal)) →
    ((found : A) → First (Ok found) → (answer : Result B Refusal) → Next found answer → P answer) →
    (answer : Result B Refusal) → AndThen First Next answer → P answer
after First Next P ends goes_on answer (inl (found, is, rest)) = goes_on found is answer rest
after First Next P ends goes_on answer (inr (refusal, why, same)) = subst P (sym same) (ends refusal why)

module _ (script : Script) (w : World SealedEntry) (roster : Option (List ℕ)) (is : IsRosterOf script w roster) where
  -- the machines of the script
  abbrev posts : List Post
  posts = roster_of script

  -- w is an honest world of these machines
  world : IsHonestWorld posts w
  world = scripts_are_honest script is.lawful is.steps w is.comes

  module _ (files : List (Option (List ℕ))) (name : List ℕ) (rules_file : Option (List ℕ)) (names : List (List ℕ)) where
    -- What was found where an audit reports: the report is on the machines and these files, its rules
    -- are those that were asked for, its logs are what the files give, its graph is what the entries of
    -- these give, and its verdicts are on the rules, of the graph's survivors.
    record IsFound (source : RuleSource) (report : AuditReport) : Type 0 where
      pub machines_are : report.machines ≡ posts
      pub named : report.files ≡ names
      pub of_source : AreRulesOf source rules_file report.rules
      pub gives_logs : GivesLogs posts (election_of posts) names files (Ok report.logs)
      pub gives_graph : GivesGraph (entries_of report.logs) (Ok report.graph)
      pub judged : AreJudged (map (row_of posts) report.graph.survivors) (nodes_of report.graph) report.rules
          report.verdicts

    -- what an answer shows: a report all of this, and a refusal, where digests differ, that it is for
    -- rules in a file
    abbrev Shows : RuleSource → Result AuditReport Refusal → Type 0
    Shows source (Ok report) = IsFound source report
    Shows source (Err refusal) =
        AreFilesOf w files → Distinct node_of_sealed (sent_in w) → IsHonestRefusal source rules_file refusal

    -- over survivors of an honest place no standard rule is too wide, so one that is stands in a file
    too_wide : (source : RuleSource) (rules : List RuleTree) → AreRulesOf source rules_file rules →
        Distinct node_of_sealed (sent_in w) → (S : List SealedEntry) → WereSentIn w S → HasNoDouble S →
        (place : ℕ) → IsFirstTooWide (map (row_of posts) S) rules place →
        IsHonestRefusal source rules_file (refused (source_word source) place (codes "TooWide"))
    too_wide standard rules same apart S sent single place first =
        let there = member_at standard_rules place first.rule (rw same at first.stands) in
        let narrow =
        scripts_are_never_too_wide script is.steps w is.lawful is.comes apart S sent single first.rule there in
        let wide = first.too_wide in
        cc
    too_wide (in_file word) rules given apart S sent single place first = inr (rules, place, given, refl)

    -- after the roster and the rules only a rule is refused: the logs and the graph aren't
    after_rules : (source : RuleSource) (rules : List RuleTree) → AreRulesOf source rules_file rules →
        (answer : Result AuditReport Refusal) →
        AndThen (GivesLogs posts (election_of posts) names files) (WithLogs posts source rules names) answer →
        Shows source answer
    after_rules source rules of =
        after (GivesLogs posts (election_of posts) names files) (WithLogs posts source rules names) (Shows source)
        (λ refusal why left apart. absurd (files_are_given posts w world names files left refusal why))
        (λ logs gives_logs.
        let read = λ (left : AreFilesOf w files). files_are_read posts w world names files left logs gives_logs in
        after (GivesGraph (entries_of logs)) (WithGraph posts source rules names logs) (Shows source)
        (λ refusal why left apart. absurd (graph_is_given posts w world apart logs (read left) refusal why))
        (λ graph gives_graph.
        after (GivesVerdicts source (map (row_of posts) graph.survivors) (nodes_of graph) rules)
        (λ verdicts answer. answer ≡ Ok (report_on posts names logs graph rules verdicts)) (Shows source)
        (λ refusal (place, first, told) left apart.
        let honest = graph_is_honest posts w world apart logs (read left) graph gives_graph in
        subst (IsHonestRefusal source rules_file) (sym told)
        (too_wide source rules of apart graph.survivors honest.completed.keeps gives_graph.2.kept.single place first))
        (λ verdicts judged answer same. subst (Shows source) (sym same) (record {
          machines_are = refl;
          named = refl;
          of_source = of;
          gives_logs = gives_logs;
          gives_graph = gives_graph;
          judged = judged;
        }))))

    -- what follows a roster that was read follows the script's
    after_roster : (source : RuleSource) (rules : List RuleTree) → AreRulesOf source rules_file rules →
        (read : RosterRead) → GivesRoster name roster (Ok read) → (answer : Result AuditReport Refusal) →
        WithRules read source rules names files answer → Shows source answer
    after_roster source rules of read given answer rest =
        after_rules source rules of answer
        (rw (read_same script w roster is name read given) at rest)

    -- each answer of the audit shows this: the roster isn't refused
    shown : (source : RuleSource) (answer : Result AuditReport Refusal) →
        GivesReport name source names (files_read roster source rules_file files) answer → Shows source answer
    shown standard =
        after (GivesRoster name roster) (λ read. WithRoster read standard names files) (Shows standard)
        (λ refusal why left apart. roster_not_refused script w roster is name refusal why)
        (after_roster standard standard_rules refl)
    shown (in_file word) =
        after (GivesRoster name roster) (λ read. WithRoster read (in_file word) names (rules_file ∷ files))
        (Shows (in_file word))
        (λ refusal why left apart. absurd (roster_not_refused script w roster is name refusal why)) (λ read given.
        after (GivesRules word rules_file) (λ rules. WithRules read (in_file word) rules names files)
        (Shows (in_file word)) (λ refusal why left apart. inl why)
        (λ rules are. after_roster (in_file word) rules are read given))

    module _ (source : RuleSource) (report : AuditReport) (found : IsFound source report) where
      -- where all whole logs are there, each is read whole
      have_all : AreAllFilesOf w files → HaveAll w report.logs
      have_all whole = files_have_all posts w world names files whole report.logs found.gives_logs

      -- and the digests differ
      found_distinct : AreAllFilesOf w files → Distinct node_of_sealed (sent_in w)
      found_distinct whole =
          graph_shows_distinct posts w world report.logs (have_all whole) report.graph found.gives_graph

      module _ (left : AreFilesOf w files) (apart : Distinct node_of_sealed (sent_in w)) where
        -- ---- what is reported

        -- the logs are those of the world
        read : AreReadIn w report.logs
        read = files_are_read posts w world names files left report.logs found.gives_logs

        -- the graph accuses nobody
        graph_honest : IsHonestGraph w (entries_of report.logs) report.graph
        graph_honest = graph_is_honest posts w world apart report.logs read report.graph found.gives_graph

        -- where all whole logs are there, all that was sent is given
        all_there : AreAllFilesOf w files → IsAllGiven w (entries_of report.logs)
        all_there whole = all_given w report.logs (have_all whole)

        -- a report on what is left of an honest place accuses nobody: no line of it is on anybody
        report_honest : IsHonestReport script w names files report
        report_honest =
            let each : (log : LogRead) → Contains report.logs log → IsReadIn w log =
            λ log. All-contains (IsReadIn w) report.logs log read in
            record {
              machines = found.machines_are;
              named = found.named;
              each = each_is_read posts w world names files left report.logs found.gives_logs;
              all = all_there;
              graph = graph_honest;
              accuses_nobody = record {
                no_refused = λ file log inside. ap (refused_lines file) (each log inside).read.none_refused;
                no_malformed = λ log inside. not_malformed _ _ log.end (each log inside).read.ends;
                no_break = λ file log inside. ap (break_line file) (each log inside).read.no_break;
                no_stray = ap stray_lines graph_honest.no_stray;
                no_fork = ap (fork_lines report.machines) graph_honest.no_fork;
              };
            }

    module _ (report : AuditReport) (found : IsFound standard report) (left : AreFilesOf w files)
        (apart : Distinct node_of_sealed (sent_in w)) where
      -- w is an honest polling place
      place : IsHonest posts w
      place = scripts_lead_to_honest_places script is.steps w is.lawful is.comes

      -- the graph accuses nobody
      honest : IsHonestGraph w (entries_of report.logs) report.graph
      honest = graph_honest standard report found left apart

      -- the survivors' rows, as rules see them
      abbrev rows : List Row
      rows = map (row_of posts) report.graph.survivors

      -- the graph is one of its survivors
      graphed : IsEntryGraph node_of_sealed report.graph
      graphed = found.gives_graph.2.kept

      -- the verdicts are on the standard rules
      judged : AreJudged rows (nodes_of report.graph) standard_rules report.verdicts
      judged = rw found.of_source at found.judged

      -- no rule is known to be broken, so no verdict is Broken
      answers_free : (answer : Verdict) → Contains report.verdicts answer → is_broken answer ≡ false
      answers_free =
          none_broken rows report.graph standard_rules report.verdicts judged
          (honest_audits_never_say_broken posts w place apart report.graph.survivors honest.completed.keeps
          graphed.single (parents_of report.graph.links) (ragged_of report.graph.links) graphed.linked.arrows)

      -- the report says of no standard rule that it is broken
      says_none_broken : SaysNoneBroken report
      says_none_broken = record {
        rules = found.of_source;
        one_each = AllZip-long (IsOn rows report.graph) standard_rules report.verdicts judged;
        verdicts = answers_free;
        unsettled = λ inside none.
            let (rule, there, on) =
            zip_right (IsOn rows report.graph) standard_rules report.verdicts judged verdict.Unsettled inside in
            (unknown_only_by_gaps node_of_sealed (row_of posts) report.graph.survivors (parents_of report.graph.links)
            (ragged_of report.graph.links) graphed.linked.arrows rule.body on.1).1 (sym graphed.gaps ∙ none);
        outcome = outcome_not_broken report answers_free;
      }

      module _ (whole : AreAllFilesOf w files) where
        -- all that was sent is given
        all_sent : IsAllGiven w (entries_of report.logs)
        all_sent = all_there standard report found left apart whole

        -- and so survives, so that each rule is known to be kept, and the verdicts are all Kept
        verdicts_kept : report.verdicts ≡ map (λ (rule : RuleTree). verdict.Kept) standard_rules
        verdicts_kept =
            all_kept rows report.graph standard_rules report.verdicts judged
            (honest_audits_say_kept posts w place apart report.graph.survivors honest.completed.keeps
            (λ e sent. (honest.members e).1 (all_sent e sent)) graphed.single (parents_of report.graph.links)
            (ragged_of report.graph.links) graphed.linked.arrows)

        -- where all files are whole logs, each log ends clean
        whole_clean : AreWholeFilesOf w files → EndClean report.logs
        whole_clean all log inside =
            let (file, there, said) =
            zip_right (IsOfFile posts) files report.logs (given_each posts names files report.logs found.gives_logs) log
            inside in
            one_clean file (All-contains (λ file. IsSomeAnd file (IsWholeIn w)) files file all there) said
          where
            -- a whole log is read to a clean end
            one_clean : (file : Option (List ℕ)) → IsSomeAnd file (IsWholeIn w) → IsOfFile posts file log →
                log.end ≡ Clean
            one_clean None whole said = absurd whole
            one_clean (Some bytes) (m, below, is) said =
                (whole_in posts w world m below log (rw is at said.1)).ends

        -- the report says that each standard rule is kept
        says_all_kept : SaysAllKept w files report
        says_all_kept =
            let no_gap = (honest.all_told all_sent).no_gap in
            record {
              rules = found.of_source;
              verdicts = verdicts_kept;
              no_gap = no_gap;
              clean = whole_clean;
              nothing = comes_to report verdicts_kept w (read standard report found left apart) honest no_gap;
              torn = torn_found report verdicts_kept;
            }

-- ---- the laws

-- a report accuses nobody, whichever rules it goes by
pub reports_accuse_nobody : laws.ReportsAccuseNobody
reports_accuse_nobody script w roster files left apart name source rules names report gives =
    report_honest script w roster left.roster files name rules names source report
    (shown script w roster left.roster files name rules names source (Ok report) gives) left.logs apart

-- by the standard rules a report says of none that it is broken
pub reports_say_none_broken : laws.ReportsSayNoneBroken
reports_say_none_broken script w roster files left apart name names report gives =
    says_none_broken script w roster left.roster files name None names report
    (shown script w roster left.roster files name None names standard (Ok report) gives) left.logs apart

-- a report over all whole logs shows that different entries have different digests
pub whole_reports_show_distinct : laws.WholeReportsShowDistinct
whole_reports_show_distinct script w roster is files whole name source rules names report gives =
    found_distinct script w roster is files name rules names source report
    (shown script w roster is files name rules names source (Ok report) gives) whole

-- over all whole logs a report by the standard rules says of each that it is kept
pub whole_reports_say_all_kept : laws.WholeReportsSayAllKept
whole_reports_say_all_kept script w roster files left whole name names report gives =
    says_all_kept script w roster left.roster files name None names report
    (shown script w roster left.roster files name None names standard (Ok report) gives) left.logs
    (whole_reports_show_distinct script w roster left.roster files whole name standard None names report gives) whole

-- an audit is refused only for rules in a file
pub audits_are_refused_only_so : laws.AuditsAreRefusedOnlySo
audits_are_refused_only_so script w roster files left apart name source rules names refusal gives =
    shown script w roster left.roster files name rules names source (Err refusal) gives left.logs apart

-- ---- rules that are left unsettled

-- what no end of a session precedes among sealed entries, none precedes among what they say
plain_no_early_end : (machines : List Post) (S : List SealedEntry) →
    NoEarlyEnd node_of_sealed (row_of machines) S →
    NoEarlyEnd node_of (λ (plain : Plain). row_said machines plain.entry) (plains S)
plain_no_early_end machines S free x z authorises before same =
    let (e, in_e, to_x) = Contains-map_cases plain_of S x before.1 in
    let (f, in_f, to_z) = Contains-map_cases plain_of S z before.0 in
    let session = λ (u : Plain). session_of u.entry.deed in
    let what = λ (u : Plain). kind_of u.entry.deed in
    let here : Precedes node_of (plains S) (plain_of f) (plain_of e) = rw (to_x, to_z) before in
    let (cast, cancel, challenge) = free e f (ap what to_x ∙ authorises)
    (order_back node_of plain_of S f e in_f in_e here) (ap session to_z ∙ same ∙ ap session (sym to_x)) in
    (λ is. cast (ap what to_z ∙ is), λ is. cancel (ap what to_z ∙ is), λ is. challenge (ap what to_z ∙ is))

-- a rule that begins as P3 does: for every authorising and every closing
abbrev begins_as_p3 : Trees → Bool
begins_as_p3 (tree_then (form.ForEvery x kind.Authorise) (tree_then (form.ForEvery y kind.Closed) parts more) rest) =
    true
begins_as_p3 other = false

-- of the standard rules P3 alone does, which is computed
only_p3 : filter (λ (rule : RuleTree). begins_as_p3 rule.body) standard_rules
    ≡ record { name = codes "P3"; body = p3_body } ∷ []
only_p3 = refl

-- so of each standard rule it is known whether it is P3
p3_or_not : (rule : RuleTree) → Contains standard_rules rule → (rule.body ≡ p3_body) ⊎ (rule.body ≢ p3_body)
p3_or_not rule there = by (begins_as_p3 rule.body) refl
  where
    -- the same by how the rule begins
    by : (b : Bool) → begins_as_p3 rule.body ≡ b → (rule.body ≡ p3_body) ⊎ (rule.body ≢ p3_body)
    by true begins =
        inl (ap (λ (r : RuleTree). r.body) (sym (Contains-one _ rule
        (subst (λ (rules : List RuleTree). Contains rules rule) only_p3
        (Contains-filter (λ (r : RuleTree). begins_as_p3 r.body) standard_rules rule there begins)))))
    by false begins = inr (λ is. let both : true ≡ false = sym (ap begins_as_p3 is) ∙ begins in cc)

-- what is open for some of the entries that complete the survivors is open for all of them
open_for_all : (Allowed : List Plain → Type 0) (report : AuditReport) (rule : RuleTree) →
    IsOpenFor Allowed report rule → IsOpenFor (λ G. Unit {0}) report rule
open_for_all Allowed report rule is =
    let (G, kept, holds) = is.kept in
    let (H, broken, fails) = is.broken in
    record {
      kept = (G, record { whole = kept.whole; each = kept.each; allowed = tt }, holds);
      broken = (H, record { whole = broken.whole; each = broken.each; allowed = tt }, fails);
    }

-- a standard rule that may have been either is open, where no end of a session is early
open_rule : (report : AuditReport) → NoEarlyEnd node_of (rows_of report) (plains report.graph.survivors) →
    (rule : RuleTree) → Contains standard_rules rule → MayBeEither report rule → IsOpenFor (λ G. Unit {0}) report rule
open_rule report free rule there either =
    elim (p3_or_not rule there) [
      | inl is ↦ open_for_all _ report rule (either.ends there is free)
      | inr other ↦ open_for_all _ report rule (either.standard there other)
    ]

-- a report leaves only those standard rules unsettled that are open
pub reports_leave_rules_open : laws.ReportsLeaveRulesOpen
reports_leave_rules_open script w roster files left apart name source rules names report gives =
    let honest = reports_accuse_nobody script w roster files left apart name source rules names report gives in
    let is = left.roster in
    let S = report.graph.survivors in
    let free = subst (λ (machines : List Post). NoEarlyEnd node_of_sealed (row_of machines) S) (sym honest.machines)
    (scripts_have_no_early_end script is.steps w is.lawful is.comes apart S honest.graph.completed.keeps) in
    zip_more (λ rule v. v ≡ verdict.Unsettled → MayBeEither report rule) _ report.rules report.verdicts
    (reports_are_exact name source names (files_read roster source rules files) report gives)
    (λ rule v among either unsettled there.
    open_rule report (plain_no_early_end report.machines S free) rule there (either unsettled))
