-- `watch` over the same logs in another order.
use Rattle.log_commands.proofs.Imports
use Imports.{[], All, All-contains, Answer, ap, arith, AuditReport, Bool, Contains, Contains-cons_cases}
use Imports.{Contains-flat_map, Contains-flat_map_cases, Contains-head, Contains-later, Contains-none}
use Imports.{Contains-permutation, distinct, distinct_bears, distinct_given, EndAlike, entries_of, entries_of_records}
use Imports.{EntryGraph, Evidence, files_read, FilesGiveOneReport, get_or, GivesEvidence, GivesGraph, GivesLogs}
use Imports.{graph_has_finding, graph_moved, HasNoCollision, inl, inr, is_broken, is_unsettled, IsPermutation}
use Imports.{IsPermutation-keeps, IsPermutation-map, IsPermutation-refl, IsPermutation-swap, IsPermutation-sym}
use Imports.{IsPermutation-trans, IsSealedGraph, IsSealedLogOf, IsValid, length, length-flat_map, length-map, List}
use Imports.{list_any, list_any-IsPermutation, log_has_finding, LogRead, map, map-set, NamedLog, nil_from_length}
use Imports.{node_of_sealed, Ok, Option, OrdersOfLogsEndAlike, outcome_by, outcome_of, Post, PrintsLast, ReadsLogs}
use Imports.{refl, report_on, RulesAreReadInOneWay, RuleSource, same_text, SameReport, SealedEntry, set, source_named}
use Imports.{status_by, status_is, subst, sum_by-IsPermutation, summary_of, swap, sym, text_of_sealed, watch_line}
use Imports.{watch_lines, ℕ, ◌++◌, ◌<◌, ◌||◌, ◌↔◌, ◌∙◌, ◌∷◌, ◌≡◌, ◌≢◌, ◌≤◌}
use Rattle.log_commands.proofs.{FilesBegun.begun_by, FilesBegun.found_then, FilesBegun.same_found, FilesBegun.whole_by}
use Rattle.log_commands.proofs.{OneOrderAnswer.OrderOne, OneProof.ones_of, OneWatch.one_evidence, OneWatch.report_by}
use Rattle.log_commands.proofs.{Summaries.same_line, WatchAgreement.IsMadeOf, WatchAgreement.last_line}
use Rattle.log_commands.proofs.{WatchAgreement.made_of, WatchAgreement.report_made, WatchCommand.report_in}
use Rattle.log_commands.proofs.{WatchReads.IsValidEntry, WatchReads.logs_are_valid}
use lib.ListN.{get_or-map}

-- ---- members that change places

module _ {X Y : Type 0} (f : X → Y) where
  -- images change places as the members do
  map_swap : (l : List X) (i j : ℕ) → map f (swap l i j) ≡ swap (map f l) i j
  map_swap [] i j = refl
  map_swap (d ∷ ys) i j =
      let l = d ∷ ys in
      let x = get_or l j d in
      let y = get_or l i d in
      map-set f (set l i x) j y
      ∙ ap (λ (w : List Y). set w j (f y)) (map-set f l i x)
      ∙ ap (λ (v : Y). set (set (map f l) i v) j (f y)) (sym (get_or-map f l j d))
      ∙ ap (λ (v : Y). set (set (map f l) i (get_or (map f l) j (f d))) j v) (sym (get_or-map f l i d))

  -- where the images of a list are put into another order, its members are in that order too
  members_follow : (xs : List X) (ys : List Y) → IsPermutation (map f xs) ys →
      (zs : List X) × IsPermutation xs zs × (map f zs ≡ ys)
  members_follow xs =
      IsPermutation-keeps (map f xs) (λ l. (zs : List X) × IsPermutation xs zs × (map f zs ≡ l))
      (xs, IsPermutation-refl xs, refl)
      (λ l i j p q (zs, moved, is).
      let below : i < length zs = omega (arith, p, ap length is, length-map zs f) in
      let above : j < length zs = omega (arith, q, ap length is, length-map zs f) in (
        swap zs i j,
        IsPermutation-trans xs zs (swap zs i j) moved (IsPermutation-swap zs (swap zs i j) i j below above refl),
        map_swap zs i j ∙ ap (λ (k : List Y). swap k i j) is,
      ))

-- ---- logs and their files

-- the names, and what is in the files
abbrev names_of : List NamedLog → List (List ℕ)
names_of files = map (λ (file : NamedLog). file.0) files

abbrev bytes_of : List NamedLog → List (Option (List ℕ))
bytes_of files = map (λ (file : NamedLog). file.1) files

module _ (machines : List Post) (election : List ℕ) where
  -- a file and the log that it says
  abbrev IsReadAs : NamedLog × LogRead → Type 0
  IsReadAs z = IsSealedLogOf machines election z.1 z.0.1

  -- the logs that files give stand beside them
  beside : (files : List NamedLog) (logs : List LogRead) →
      GivesLogs machines election (names_of files) (bytes_of files) (Ok logs) →
      (zs : List (NamedLog × LogRead)) × (map (λ (z : NamedLog × LogRead). z.0) zs ≡ files)
      × (map (λ (z : NamedLog × LogRead). z.1) zs ≡ logs) × ((z : NamedLog × LogRead) → Contains zs z → IsReadAs z)
  beside [] [] gives = ([], refl, refl, λ z has. absurd (Contains-none z has))
  beside (file ∷ files) (log ∷ logs) (says, rest) =
      let (zs, named, same, read) = beside files logs rest in (
        (file, log) ∷ zs,
        ap (λ (fs : List NamedLog). file ∷ fs) named,
        ap (λ (ls : List LogRead). log ∷ ls) same,
        λ z has. elim (Contains-cons_cases (file, log) zs z has) [
          | inl is ↦ subst IsReadAs is says
          | inr later ↦ read z later
        ],
      )
  beside files logs gives = absurd gives

  -- and files give the logs that stand beside them
  given : (zs : List (NamedLog × LogRead)) → ((z : NamedLog × LogRead) → Contains zs z → IsReadAs z) →
      GivesLogs machines election (names_of (map (λ (z : NamedLog × LogRead). z.0) zs))
      (bytes_of (map (λ (z : NamedLog × LogRead). z.0) zs)) (Ok (map (λ (z : NamedLog × LogRead). z.1) zs))
  given [] read = tt
  given (z ∷ zs) read = (read z (Contains-head z zs), given zs (λ y has. read y (Contains-later z zs y has)))

  -- so files in another order give the logs in that order
  in_order : (files others : List NamedLog) (logs : List LogRead) → IsPermutation files others →
      GivesLogs machines election (names_of files) (bytes_of files) (Ok logs) →
      (moved : List LogRead) × IsPermutation logs moved
      × GivesLogs machines election (names_of others) (bytes_of others) (Ok moved)
  in_order files others logs same gives =
      let (zs, named, are, read) = beside files logs gives in
      let (ws, moved, there) =
      members_follow (λ (z : NamedLog × LogRead). z.0) zs others
      (subst (λ (fs : List NamedLog). IsPermutation fs others) (sym named) same) in (
        map (λ (z : NamedLog × LogRead). z.1) ws,
        subst (λ (ls : List LogRead). IsPermutation ls (map (λ (z : NamedLog × LogRead). z.1) ws)) are
            (IsPermutation-map (λ (z : NamedLog × LogRead). z.1) zs ws moved),
        subst (λ (fs : List NamedLog). GivesLogs machines election (names_of fs) (bytes_of fs)
            (Ok (map (λ (z : NamedLog × LogRead). z.1) ws))) there
            (given ws (λ z has. read z (Contains-permutation ws zs z (IsPermutation-sym zs ws moved) has))),
      )

-- ---- entries in another order

module _ (machines : List Post) (election : List ℕ) (es fs : List SealedEntry)
    (same : (e : SealedEntry) → Contains es e ↔ Contains fs e)
    (valid : (e : SealedEntry) → Contains fs e → IsValid machines election e.text e)
    (none : HasNoCollision node_of_sealed text_of_sealed fs) where
  -- an entry is one of the different ones of a list where it is one of those of the other
  distinct_moves : (e : SealedEntry) → Contains (distinct node_of_sealed es) e →
      Contains (distinct node_of_sealed fs) e
  distinct_moves e has =
      let there = (same e).0 (distinct_given node_of_sealed es e has) in
      let (h, among, digest) = distinct_bears node_of_sealed fs e there in
      let here = distinct_given node_of_sealed fs h among in
      let v = valid h here in
      let w = valid e there in
      subst (λ (x : SealedEntry). Contains (distinct node_of_sealed fs) x)
      (same_text machines h e v.kept w.kept (record { maker = v.maker; key = v.key })
      (record { maker = w.maker; key = w.key }) (none h e here there digest)) among

module _ (logs moved : List LogRead) (same : IsPermutation logs moved) where
  -- the same entries are kept
  kept_there : (e : SealedEntry) → Contains (entries_of logs) e → Contains (entries_of moved) e
  kept_there e has =
      let of : LogRead → List SealedEntry = λ log. entries_of_records log.kept in
      let (log, there, among) = Contains-flat_map_cases of logs e has in
      Contains-flat_map of moved log e (Contains-permutation logs moved log same there) among

  -- and as many
  kept_as_many : length (entries_of logs) ≡ length (entries_of moved)
  kept_as_many =
      let of : LogRead → List SealedEntry = λ log. entries_of_records log.kept in
      length-flat_map of logs ∙ sym (sum_by-IsPermutation (λ (log : LogRead). length (of log)) logs moved same)
      ∙ sym (length-flat_map of moved)

module _ (machines : List Post) (election : List ℕ) (logs moved : List LogRead) (same : IsPermutation logs moved)
    (valid : All (IsValidEntry machines election) (entries_of logs)) (graph : EntryGraph SealedEntry)
    (graphed : IsSealedGraph (entries_of logs) (Ok graph))
    (few : length (distinct node_of_sealed (entries_of moved)) ≤ 16384) where
  -- they are the same entries
  abbrev Valid : SealedEntry → Type 0
  Valid = IsValidEntry machines election

  back : (e : SealedEntry) → Contains (entries_of moved) e → Contains (entries_of logs) e
  back = kept_there moved logs (IsPermutation-sym logs moved same)

  forth : (e : SealedEntry) → Contains (entries_of logs) e → Contains (entries_of moved) e
  forth = kept_there logs moved same

  -- so they have the same graph
  graph_there : IsSealedGraph (entries_of moved) (Ok graph)
  graph_there =
      let all : (e : SealedEntry) → Contains (entries_of logs) e → Valid e =
      λ e has. All-contains Valid (entries_of logs) e valid has in
      let none : HasNoCollision node_of_sealed text_of_sealed (entries_of moved) =
      λ e f ce cf digest. graphed.0 e f (back e ce) (back f cf) digest in (
        none,
        few,
        graph_moved (distinct node_of_sealed (entries_of logs))
            (distinct node_of_sealed (entries_of moved)) (λ e. (
              distinct_moves machines election (entries_of logs) (entries_of moved) (λ x. (forth x, back x))
                  (λ x has. all x (back x has)) none e,
              distinct_moves machines election (entries_of moved) (entries_of logs) (λ x. (back x, forth x)) all
                  graphed.0 e,
            )) graph graphed.2,
      )

-- ---- what is read

-- the logs of the evidence in another order, with which the same holds of it
record Moved (found : Evidence) (Gives : Evidence → Type 0) : Type 0 where
  logs : List LogRead
  same : IsPermutation found.logs logs
  gives : Gives (record { machines = found.machines; rules = found.rules; logs = logs })
  election : List ℕ
  valid : All (IsValidEntry found.machines election) (entries_of found.logs)

-- files in another order give the evidence with the logs in another order
evidence_moved : (files others : List NamedLog) → IsPermutation files others → (found : Evidence) (roster : List ℕ)
    (source : RuleSource) (roster_file rules_file : Option (List ℕ)) →
    GivesEvidence roster source (names_of files) (files_read roster_file source rules_file (bytes_of files)) (Ok found) →
    Moved found (λ ev. GivesEvidence roster source (names_of others)
    (files_read roster_file source rules_file (bytes_of others)) (Ok ev))
evidence_moved files others same found roster source roster_file rules_file gives =
    let (b, reads) = begun_by (λ read rules rest. ReadsLogs read rules (names_of files) rest) roster roster_file
    rules_file (bytes_of files) source found gives in
    let (logs, keep, e) = found_then reads in
    let is = same_found e in
    let (moved, order, again) = in_order b.read.roster.machines b.read.election files others logs same keep in
    record {
      logs = moved;
      same = subst (λ (ev : Evidence). IsPermutation ev.logs moved) (sym is) order;
      gives = whole_by (λ read rules rest. ReadsLogs read rules (names_of others) rest) roster roster_file rules_file
          (bytes_of others) source b (Ok (record { machines = found.machines; rules = found.rules; logs = moved })) (inl (
            moved,
            again,
            ap (λ (ev : Evidence). Ok (record { machines = ev.machines; rules = ev.rules; logs = moved })) is,
          ));
      election = b.read.election;
      valid = subst (λ (ev : Evidence). All (IsValidEntry ev.machines b.read.election) (entries_of ev.logs)) (sym is)
          (logs_are_valid b.read.roster.machines b.read.election (names_of files) (bytes_of files) logs keep);
    }

-- ---- what is printed

module _ (order : OrderOne) (readings : RulesAreReadInOneWay) (reports : FilesGiveOneReport) (roster : List ℕ)
    (source : RuleSource) (roster_file rules_file : Option (List ℕ)) (files others : List NamedLog)
    (order_of : IsPermutation files others) (told also : Answer)
    (one : IsMadeOf roster source (names_of files) (files_read roster_file source rules_file (bytes_of files)) told)
    (two : IsMadeOf roster source (names_of others) (files_read roster_file source rules_file (bytes_of others)) also)
  where
    -- the files of the other order
    abbrev read_there : List (Option (List ℕ))
    read_there = files_read roster_file source rules_file (bytes_of others)

    moved : Moved one.found (λ ev. GivesEvidence roster source (names_of others) read_there (Ok ev))
    moved = evidence_moved files others order_of one.found roster source roster_file rules_file one.gives

    abbrev evidence : Evidence
    evidence = record { machines = one.found.machines; rules = one.found.rules; logs = moved.logs }

    -- the logs in the other order say what was read of it
    entries : entries_of moved.logs ≡ entries_of two.found.logs
    entries =
        ap (λ (found : Evidence). entries_of found.logs)
        (one_evidence (ones_of order readings) (names_of others) roster source read_there (Ok evidence)
        (Ok two.found) moved.gives two.gives)

    -- the graph is that of both
    graphed : GivesGraph (entries_of moved.logs) (Ok one.of.graph)
    graphed =
        graph_there one.found.machines moved.election one.found.logs moved.logs moved.same moved.valid one.of.graph
        one.of.graphed
        (subst (λ (es : List SealedEntry). length (distinct node_of_sealed es) ≤ 16384) (sym entries) two.of.graphed.1)

    -- the report of the logs in the other order
    abbrev second : AuditReport
    second = report_on one.found.machines (names_of others) moved.logs one.of.graph one.found.rules one.of.verdicts

    same : SameReport second (report_in two.of)
    same =
        reports roster source (names_of others) read_there (Ok second) (Ok (report_in two.of))
        (report_by (names_of others) roster source read_there evidence (Ok second) moved.gives
        (inl (one.of.graph, graphed, inl (one.of.verdicts, one.of.judged, refl))))
        (report_made roster source (names_of others) read_there also two)

    outcome : outcome_of (report_in one.of) ≡ outcome_of second
    outcome =
        ap (λ (b : Bool). outcome_by (list_any is_broken one.of.verdicts) (list_any is_unsettled one.of.verdicts)
        (b || graph_has_finding one.of.graph))
        (list_any-IsPermutation log_has_finding one.found.logs moved.logs moved.same)

    -- both have as many entries
    as_many : length (entries_of one.found.logs) ≡ length (entries_of two.found.logs)
    as_many = kept_as_many one.found.logs moved.logs moved.same ∙ ap length entries

    -- they end alike
    ends_alike : EndAlike told also
    ends_alike = record {
      status = status_is told _ one.of.is ∙ ap status_by (outcome ∙ same.outcome) ∙ sym (status_is also _ two.of.is);
      last = λ prints.
          let some : entries_of one.found.logs ≢ [] = λ none.
          prints (ap (λ (a : Answer). a.output) one.of.is ∙ ap (watch_lines 1)
          (nil_from_length one.of.summaries (one.of.said.one_each ∙ ap length none))) in
          let (earlier, long, line) =
          last_line order.graph (names_of others) two.found also two.of
          (λ none. some (nil_from_length _ (as_many ∙ ap length none))) in
          let n = length (entries_of one.found.logs) in
          let there : PrintsLast n (summary_of (report_in one.of)) also = (
            earlier,
            long ∙ sym as_many,
            line ∙ ap (λ m. watch_lines 1 earlier ++ watch_line m (summary_of (report_in two.of))) (sym as_many)
                ∙ ap (λ (l : List ℕ). watch_lines 1 earlier ++ l) (sym (same_line n (summary_of second)
                (summary_of (report_in two.of)) (ap (λ g. length g.survivors) same.graph) (ap (λ g. g.gaps) same.graph) same.verdicts)),
          ) in
          (n, summary_of (report_in one.of), last_line order.graph (names_of files) one.found told one.of some, there);
    }

-- the order of the logs doesn't decide how `watch` ends
pub orders_end_alike : OrderOne → RulesAreReadInOneWay → FilesGiveOneReport → OrdersOfLogsEndAlike
orders_end_alike order readings reports roster rules roster_file rules_file files others watched other same is also
    reported reported_too =
    ends_alike order readings reports roster (source_named rules) roster_file rules_file files others same watched other
    (made_of roster rules (names_of files) _ watched is reported)
    (made_of roster rules (names_of others) _ other also reported_too)
