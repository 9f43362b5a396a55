-- Entries that are watched one after another.
use Rattle.log_commands.proofs.Imports
use Imports.{[], AddsTo, After, All, Answer, ap, append-nil, append_assoc, AreFewDistinct, AreLinesOf, arith}
use Imports.{AuditReport, Becomes, below_more, bytes_eq, cases_Bool, codes, Collides, Contains, Contains-append_left}
use Imports.{distinct, distinct_again, distinct_bears, distinct_given, distinct_new, drop, entries_of}
use Imports.{EntriesGiveOneGraph, EntryGraph, Err, evidence_by, false, first_half, Fresh, get_or, get_or-map}
use Imports.{GivesGraph, graph_has_finding, has_digest, has_digest_from, has_digest_of, HasNoCollision, IfSome, inl}
use Imports.{InputFault, inr, is_broken, is_unsettled, IsAddAnswer, IsFaultOf, IsFirstTooWide, IsLive, IsNarrowOver}
use Imports.{IsNew, IsOfSameAudit, IsSealedGraph, IsTooWideAfter, IsTooWideOver, IsUnadded, IsUnwatched, Known, length}
use Imports.{length-append, length-map, length-take, List, list_any, LiveFault, LiveState, log_has_finding, LogRead}
use Imports.{map, map-append, max_added, New, node_of_sealed, numbers_line, of_refusal, Ok, OnOk, outcome_by, Post}
use Imports.{refl, refusal_of, refused, report_on, Result, row_of, Rule, rule_tree, RuleTree, same_gives, SealedEntry}
use Imports.{second_half, source_named, stand_copied, stand_repeated, StandFor, status_by, subst, Summary, sym, take}
use Imports.{take-append-drop, take_all, taken_more, text_of_sealed, TooMany, true, true≢false, Unwatched, watch_answer}
use Imports.{watch_line, watch_lines, Watches, ℕ, ◌++◌, ◌+◌, ◌<◌, ◌||◌, ◌∙◌, ◌∷◌, ◌≡◌, ◌≤◌}
use Rattle.log_commands.proofs.{CheckAnswers.names_itself, FilesBegun.same_found, Summaries.lines_more}
use Rattle.log_commands.proofs.{Summaries.none_wide, Summaries.said_more}
use Rattle.live_auditor.specs.declared.fresh.LiveFault.TheVariants.{TooWide as LiveTooWide}
use Rattle.log_commands.specs.declared.watch.Unwatched.TheVariants.{Memory, TooWide}

-- ---- how many are different

-- an entry whose digest one of the different ones has isn't one more
not_one_more : (es : List SealedEntry) (e : SealedEntry) →
    has_digest node_of_sealed (distinct node_of_sealed es) e.digest ≡ true →
    distinct node_of_sealed (es ++ e ∷ []) ≡ distinct node_of_sealed es
not_one_more es e has =
    let (g, there, same) = has_digest_from node_of_sealed (distinct node_of_sealed es) e.digest has in
    distinct_again node_of_sealed es e g (distinct_given node_of_sealed es g there) same

-- an entry whose digest none of the different ones has is one more
one_more : (es : List SealedEntry) (e : SealedEntry) →
    has_digest node_of_sealed (distinct node_of_sealed es) e.digest ≡ false →
    distinct node_of_sealed (es ++ e ∷ []) ≡ distinct node_of_sealed es ++ e ∷ []
one_more es e none =
    distinct_new node_of_sealed es e (λ g there same.
    let (h, among, also) = distinct_bears node_of_sealed es g there in
    true≢false (sym (has_digest_of node_of_sealed (distinct node_of_sealed es) e.digest (h, among, also ∙ same)) ∙ none))

-- with more entries there aren't fewer
no_fewer : (es more : List SealedEntry) →
    length (distinct node_of_sealed es) ≤ length (distinct node_of_sealed (es ++ more))
no_fewer es [] = omega (arith, ap (λ gs. length (distinct node_of_sealed gs)) (append-nil es))
no_fewer es (e ∷ more) =
    let rest = no_fewer (es ++ e ∷ []) more in
    let joined = ap (λ gs. length (distinct node_of_sealed gs)) (append_assoc es (e ∷ []) more) in
    elim (cases_Bool (has_digest node_of_sealed (distinct node_of_sealed es) e.digest)) [
      | inl has ↦ omega (arith, rest, joined, ap length (not_one_more es e has))
      | inr none ↦
          omega (arith, rest, joined, ap length (one_more es e none), length-append (distinct node_of_sealed es) (e ∷ []))
    ]

-- the first entries have no more than all
few_first : (k : ℕ) (es : List SealedEntry) →
    length (distinct node_of_sealed (take k es)) ≤ length (distinct node_of_sealed es)
few_first k es =
    subst (λ gs. length (distinct node_of_sealed (take k es)) ≤ length (distinct node_of_sealed gs))
    (take-append-drop k es) (no_fewer (take k es) (drop k es))

-- a test of what is read is one of the entries
has_among : {R : Type 0} (now : R → SealedEntry) (rs : List R) (d : List ℕ) →
    list_any (λ r. bytes_eq (now r).digest d) rs ≡ has_digest node_of_sealed (map now rs) d
has_among now [] d = refl
has_among now (r ∷ rs) d = ap (λ b. bytes_eq (now r).digest d || b) (has_among now rs d)

-- e is the k-th of the entries
pub record IsAt (es : List SealedEntry) (k : ℕ) (e : SealedEntry) : Type 0 where
  pub within : k < length es
  pub is : e ≡ get_or es k e

-- what is read at a place is the entry there
pub is_at : {R : Type 0} (now : R → SealedEntry) (entries : List R) {k : ℕ} {r : R} → k < length entries →
    r ≡ get_or entries k r → IsAt (map now entries) k (now r)
is_at now entries {k} {r} within is = record {
  within = subst (λ n. k < n) (sym (length-map entries now)) within;
  is = ap now is ∙ sym (get_or-map now entries k r (now r) within);
}

-- what holds of all holds of it
pub at_all : {es : List SealedEntry} {k : ℕ} {e : SealedEntry} → IsAt es k e → (P : SealedEntry → Type 0) → All P es →
    P e
at_all {es} {k} {e} at P all = subst P (sym at.is) (all k e at.within)

module _ {R : Type 0} (now : R → SealedEntry) (entries : List R) (k : ℕ) (r : R) (within : k < length entries)
    (is : r ≡ get_or entries k r) (different : List R)
    (are : map now different ≡ distinct node_of_sealed (take k (map now entries))) (d : List ℕ)
    (same : d ≡ (now r).digest) where
  -- the entries up to this one
  read_ups : take (k + 1) (map now entries) ≡ take k (map now entries) ++ now r ∷ []
  read_ups =
      let at : IsAt (map now entries) k (now r) = is_at now entries within is in
      taken_more (map now entries) k (now r) at.within at.is

  -- the test is one of the different ones
  tested : list_any (λ x. bytes_eq (now x).digest d) different
      ≡ has_digest node_of_sealed (distinct node_of_sealed (take k (map now entries))) (now r).digest
  tested = has_among now different d ∙ (λ i. has_digest node_of_sealed (are i) (same i))

  -- an entry with a new digest is one of the different ones
  pub counted : list_any (λ x. bytes_eq (now x).digest d) different ≡ false →
      map now (different ++ r ∷ []) ≡ distinct node_of_sealed (take (k + 1) (map now entries))
  counted none =
      map-append now different (r ∷ []) ∙ ap (λ es. es ++ now r ∷ []) are
      ∙ sym (ap (distinct node_of_sealed) read_ups ∙ one_more (take k (map now entries)) (now r) (sym tested ∙ none))

  -- an entry with a known digest adds none to the different ones
  pub not_counted : list_any (λ x. bytes_eq (now x).digest d) different ≡ true →
      map now different ≡ distinct node_of_sealed (take (k + 1) (map now entries))
  not_counted has =
      are ∙ sym (ap (distinct node_of_sealed) read_ups
      ∙ not_one_more (take k (map now entries)) (now r) (sym tested ∙ has))

  -- one more than 1,024 are too many
  pub too_many_of : list_any (λ x. bytes_eq (now x).digest d) different ≡ false → length different ≡ 1024 →
      ¬ AreFewDistinct (map now entries)
  too_many_of none full few =
      omega (
        arith,
        few,
        few_first (k + 1) (map now entries),
        ap length (counted none),
        length-map (different ++ r ∷ []) now,
        length-append different (r ∷ []),
        full,
      )

-- where all were checked, no more than these are different
pub few_of : {R : Type 0} (now : R → SealedEntry) (entries different : List R) (k : ℕ) → length entries ≤ k →
    map now different ≡ distinct node_of_sealed (take k (map now entries)) → length different ≤ 1024 →
    AreFewDistinct (map now entries)
few_of now entries different k past are few =
    let all = take_all k (map now entries) (omega (arith, length-map entries now)) in
    omega (arith, few, length-map different now, ap length are, ap (λ es. length (distinct node_of_sealed es)) all)

-- ---- one entry after another

-- an audit stays the same over two steps, as its machines and rules do
pub same_audit : (a b c : LiveState) → IsOfSameAudit a b → IsOfSameAudit b c → IsOfSameAudit a c
same_audit a b c first then =
    record { machines = then.machines ∙ first.machines; rules = then.rules ∙ first.rules }

-- an entry is added that is new, or it is known
pub adds_to : (live next : LiveState) (e s : SealedEntry) (fresh : Fresh) → s ≡ e → IsAddAnswer live s (Ok fresh) →
    Becomes live s (Ok fresh) next → AddsTo live.added e next.added
adds_to live next e s New same (new, room) becomes =
    inr (subst (IsNew node_of_sealed live.added) same new, becomes ∙ ap (λ f. live.added ++ f ∷ []) same)
adds_to live next e s Known same has becomes =
    inl (subst (Contains live.added) same has, ap (λ (l : LiveState). l.added) becomes)

-- an entry isn't added where a rule would be too wide with it
pub wide_with : (live : LiveState) (e s back : SealedEntry) (fault : LiveFault) (place : ℕ) → s ≡ e →
    fault ≡ LiveTooWide back place → IsAddAnswer live s (Err fault) → IsUnadded live e (TooWide place)
wide_with live e s back fault place same is answer =
    let (_, (new, room), wide) = subst (λ f. IsAddAnswer live s (Err f)) is answer in (
      subst (IsNew node_of_sealed live.added) same new,
      subst (λ f. IsTooWideOver live.machines (map rule_tree live.rules) (live.added ++ f ∷ []) place) same wide,
    )

-- an entry isn't refused as one too many where there is room for each new one
pub never_full : (live : LiveState) (e s back : SealedEntry) (fault : LiveFault) → s ≡ e → fault ≡ TooMany back →
    IsAddAnswer live s (Err fault) → ¬ (IsNew node_of_sealed live.added e → length live.added < max_added)
never_full live e s back fault same is answer room =
    let (_, new, full) = subst (λ f. IsAddAnswer live s (Err f)) is answer in
    omega (arith, full, room (subst (IsNew node_of_sealed live.added) same new))

-- what is said of entries, is said of those that they stand for
after_given : (machines : List Post) (rules : List RuleTree) (added given : List SealedEntry) (s : Summary) →
    StandFor node_of_sealed text_of_sealed added given → After machines rules added s → After machines rules given s
after_given machines rules added given s stand a = record {
  graph = a.graph;
  graphed = same_gives added given stand (Ok a.graph) a.graphed;
  survivors = a.survivors;
  gaps = a.gaps;
  strays = a.strays;
  forks = a.forks;
  judged = a.judged;
}

-- so is the place of a rule that is too wide
wide_given : (machines : List Post) (rules : List RuleTree) (added given : List SealedEntry) (place : ℕ) →
    StandFor node_of_sealed text_of_sealed added given → IsTooWideOver machines rules added place →
    IsTooWideOver machines rules given place
wide_given machines rules added given place stand (graph, graphed, first) =
    (graph, same_gives added given stand (Ok graph) graphed, first)

-- the first entries are narrow after each
abbrev pub AreNarrow : List Post → List RuleTree → List SealedEntry → ℕ → Type 0
AreNarrow machines rules es k = (n : ℕ) → n < k → IsNarrowOver machines rules (take (n + 1) es)

module _ {es : List SealedEntry} {k : ℕ} {e : SealedEntry} (at : IsAt es k e) {added : List SealedEntry}
    (stand : StandFor node_of_sealed text_of_sealed added (take k es)) where
  -- the entries up to this one
  ups : take (k + 1) es ≡ take k es ++ e ∷ []
  ups = taken_more es k e at.within at.is

  -- an entry collides with none that was added, where no two of all entries collide
  pub collides_not : HasNoCollision node_of_sealed text_of_sealed es → ¬ Collides added e
  collides_not none (f, has, digest, text) =
      text (none f e (subst (λ gs. Contains gs f) (take-append-drop k es)
      (Contains-append_left (take k es) (drop k es) f (stand.members f has))) (k, at.within, sym at.is) digest)

  -- with it those that were added stand for those up to it
  stands_copied : StandFor node_of_sealed text_of_sealed (added ++ e ∷ []) (take (k + 1) es)
  stands_copied = rw ups (stand_copied node_of_sealed text_of_sealed added (take k es) e stand)

  -- whether it is new or not
  pub stands_then : {next : List SealedEntry} → AddsTo added e next →
      StandFor node_of_sealed text_of_sealed next (take (k + 1) es)
  stands_then (inl (has, same)) =
      rw (same, ups) (stand_repeated node_of_sealed text_of_sealed added (take k es) e e stand has (refl, refl))
  stands_then (inr (new, same)) = rw same stands_copied

  -- there is room for it, if it is new
  pub has_room : AreFewDistinct es → distinct node_of_sealed added ≡ added → IsNew node_of_sealed added e →
      length added < max_added
  has_room few once new =
      omega (
        arith,
        few,
        few_first (k + 1) es,
        ap length (distinct_new node_of_sealed added e new),
        ap length stands_copied.distinct,
        ap length once,
        length-append (distinct node_of_sealed added) (e ∷ []),
      )

  -- the line of an entry that was added comes after the others
  pub told_more : {machines : List Post} {rules : List RuleTree} {text : List ℕ} →
      AreLinesOf machines rules (take k es) text → {next : List SealedEntry} {s : Summary} → AddsTo added e next →
      After machines rules next s → AreLinesOf machines rules (take (k + 1) es) (text ++ watch_line (k + 1) s)
  told_more {machines} {rules} (ss, said, lines) {next} {s} adds a =
      let more = said_more machines rules es k at.within ss s said
      (after_given machines rules next (take (k + 1) es) s (stands_then adds) a) in
      let within = at.within in
      let long : 1 + length ss ≡ k + 1 =
      omega (arith, more.one_each, length-append ss (s ∷ []), length-take (k + 1) es, within) in (
        ss ++ s ∷ [],
        more,
        ap (λ t. t ++ watch_line (k + 1) s) lines
            ∙ sym (lines_more 1 ss s ∙ ap (λ n. watch_lines 1 ss ++ watch_line n s) long),
      )

  -- the first that is too wide after entries that are narrow
  pub wide_after : {machines : List Post} {rules : List RuleTree} {next : List SealedEntry} {place : ℕ} →
      AddsTo added e next → IsTooWideOver machines rules next place → AreNarrow machines rules es k →
      IsTooWideAfter machines rules es place
  wide_after {machines} {rules} {next} {place} adds wide narrow = record {
    before = k;
    within = at.within;
    earlier = narrow;
    too_wide = wide_given machines rules next (take (k + 1) es) place (stands_then adds) wide;
  }

-- where an entry isn't added, as a rule would be too wide, the entries aren't watched
pub unwatched : EntriesGiveOneGraph → {es : List SealedEntry} {k : ℕ} {e : SealedEntry} → IsAt es k e →
    {start live : LiveState} → IsOfSameAudit start live →
    StandFor node_of_sealed text_of_sealed live.added (take k es) → (text : List ℕ) →
    AreLinesOf start.machines (map rule_tree start.rules) (take k es) text → (why : Unwatched) → IsUnadded live e why →
    IsUnwatched start.machines (map rule_tree start.rules) es why
unwatched graphs {es} {k} {e} at {start} {live} same stand text (ss, said, lines) (TooWide place) (new, wide) =
    let within = at.within in
    let trees = map rule_tree start.rules in
    record {
      before = k;
      within = within;
      too_wide = wide_given start.machines trees (live.added ++ e ∷ []) (take (k + 1) es) place (stands_copied at stand)
          (coe 0 1 (i. IsTooWideOver (same.machines i) (map rule_tree (same.rules i)) (live.added ++ e ∷ []) place) wide);
      earlier = none_wide graphs start.machines trees es k (omega (arith, within)) ss said;
    }
unwatched graphs at same stand text told Memory why = tt

-- the first entries stay narrow after each with one more, where those that stand for them are narrow
pub narrow_more : EntriesGiveOneGraph → (machines : List Post) (rules : List RuleTree) (es added : List SealedEntry)
    (k : ℕ) (graph : EntryGraph SealedEntry) → IsSealedGraph added (Ok graph) →
    StandFor node_of_sealed text_of_sealed added (take (k + 1) es) →
    ((place : ℕ) → ¬ IsTooWideOver machines rules added place) → AreNarrow machines rules es k →
    AreNarrow machines rules es (k + 1)
narrow_more graphs machines rules es added k graph graphed stand none so_far =
    let given = take (k + 1) es in
    let gives : IsSealedGraph given (Ok graph) = same_gives added given stand (Ok graph) graphed in
    let last : IsNarrowOver machines rules given = record {
      graph = graph;
      graphed = gives;
      narrow = λ place (other, also, first).
          let same = same_found (graphs given (Ok other) (Ok graph) also gives) in
          let moved = subst (λ g. IsFirstTooWide (map (row_of machines) g.survivors) rules place) same first in
          none place (graph, graphed, moved);
    } in
    below_more (λ n. IsNarrowOver machines rules (take (n + 1) es)) k so_far last

-- ---- the answer

module _ (word : List ℕ) (logs : List LogRead) (names : List (List ℕ)) (graph : EntryGraph SealedEntry)
    (graphed : GivesGraph (entries_of logs) (Ok graph)) (few : AreFewDistinct (entries_of logs)) where
  -- a rule that is too wide is refused, by its place
  pub too_wide : (machines : List Post) (rules : List Rule) (place : ℕ) (fault : InputFault) →
      IsTooWideAfter machines (map rule_tree rules) (entries_of logs) place →
      IsFaultOf (refused word place (codes "TooWide")) fault → IfSome (refusal_of fault)
      (λ refusal. Watches (source_named word) names (evidence_by machines rules logs) (Err refusal))
  too_wide machines rules place fault late of =
      let named = ap (λ (w : List ℕ). refused w place (codes "TooWide")) (sym (names_itself word)) in
      of_refusal (λ refusal. Watches (source_named word) names (evidence_by machines rules logs) (Err refusal))
      (refused word place (codes "TooWide")) fault of
      (inl (graph, graphed, inr (refused word place (codes "TooWide"), inr (few, (place, late, named)), refl)))

  -- otherwise the lines are printed, with the status of the report
  pub lines_told : EntriesGiveOneGraph → (live : LiveState) (text : List ℕ) (answer : Answer) → IsLive live →
      StandFor node_of_sealed text_of_sealed live.added (entries_of logs) →
      AreLinesOf live.machines (map rule_tree live.rules) (entries_of logs) text → answer ≡ record {
        status = status_by (outcome_by (list_any is_broken live.summary.verdicts)
            (list_any is_unsettled live.summary.verdicts)
            (list_any log_has_finding logs || graph_has_finding graph));
        files = [];
        ahead = 0;
        output = text;
      } →
      Watches (source_named word) names (evidence_by live.machines live.rules logs) (Ok answer)
  lines_told graphs live text answer is stand (ss, said, lines) made =
      let trees = map rule_tree live.rules in
      let verdicts = live.summary.verdicts in
      let a = after_given live.machines trees live.added (entries_of logs) live.summary stand is.after in
      let same : graph ≡ a.graph = same_found (graphs (entries_of logs) (Ok graph) (Ok a.graph) graphed a.graphed) in
      let report : AuditReport = report_on live.machines names logs a.graph trees verdicts in
      let is_told : answer ≡ watch_answer ss report = made ∙ (λ i. record {
        status = status_by (outcome_by (list_any is_broken verdicts) (list_any is_unsettled verdicts)
            (list_any log_has_finding logs || graph_has_finding (same i)));
        files = [];
        ahead = 0;
        output = lines i;
      }) in
      inl (a.graph, a.graphed, inl (ss, (few, said), inl (report, inl (verdicts, a.judged, refl), ap Ok is_told)))

-- ---- a line

-- where both halves of a line are added the line is
pub halves_added : {T E : Type 0} (result : Result T E) (n survivors gaps kept broken unsettled : ℕ)
    (line start mid end : List ℕ) → line ≡ numbers_line n survivors gaps kept broken unsettled →
    mid ≡ start ++ first_half n survivors gaps → OnOk result (end ≡ mid ++ second_half kept broken unsettled) →
    OnOk result (end ≡ start ++ line)
halves_added (Ok x) n survivors gaps kept broken unsettled line start mid end same first second =
    let all : mid ++ second_half kept broken unsettled ≡ start ++ line = rw (first, same) (simp append_assoc) in
    second ∙ all
halves_added (Err e) n survivors gaps kept broken unsettled line start mid end same first second = tt
