-- What `watch` says where the logs' files are left of an honest place.
use Rattle.log_commands.proofs.Imports
use Imports.{[], After, All, Answer, ap, AreSummaries, audits_are_refused_only_so, Bool, BreaksNoRule, codes}
use Imports.{cond-false, Contains, Contains-append_left, Contains-head, Contains-later, count_by, Distinct}
use Imports.{distinct_given, drop, election_of, entries_of, EntryGraph, Err, Evidence, false, files_are_read, filter}
use Imports.{get_or, GivesEvidence, GivesLogs, GivesSummaries, HasLeft, honest_audits_never_say_broken}
use Imports.{HonestWatchesBreakNoRule, inl, inr, is_broken, IsHonest, IsHonestWorld, IsOfScript, IsSealedGraph}
use Imports.{IsTooWideOver, left_agrees, length, length-filter, List, LogRead, map, member_at, node_of_sealed, None}
use Imports.{none_broken, Ok, Option, OrRefused, outcome_of, parents_of, Post, ragged_of, read_same, refl, Refusal}
use Imports.{refusal_answer, refused, refused_answer, reports_say_none_broken, Result, roster_not_refused, roster_of}
use Imports.{RosterRead, row_of, RuleTree, Script, script_given, script_not_refused, scripts_are_honest}
use Imports.{scripts_are_never_too_wide, scripts_lead_to_honest_places, SealedEntry, sent_in, slice_get-get_or}
use Imports.{standard, standard_rules, status_is, subst, Summary, sym, take, take-append-drop, three_in, Watches}
use Imports.{WereSentIn, World, world_of_script, ℕ, ◌+◌, ◌∙◌, ◌∷◌, ◌≡◌, ◌≢◌, ◌⊎◌}
use Rattle.log_commands.proofs.{FilesBegun.found_then, FilesBegun.same_found, HonestAudits.only_broken}
use Rattle.log_commands.proofs.{OneWatch.report_by, WatchCommand.report_in, WatchCommand.told_of}
use Rattle.entry_order.specs.declared.three.Three.TheVariants as three

-- what no member is leaves none
none_left : {X : Type 0} (test : X → Bool) (xs : List X) → ((x : X) → Contains xs x → test x ≡ false) →
    filter test xs ≡ []
none_left test [] none = refl
none_left test (x ∷ xs) none =
    cond-false (test x) (x ∷ filter test xs) (filter test xs) (none x (Contains-head x xs))
    ∙ none_left test xs (λ y c. none y (Contains-later x xs y c))

module _ (script : Script) (w : World SealedEntry) (roster : Option (List ℕ)) (files : List (Option (List ℕ)))
    (place : HasLeft script w roster files) (apart : Distinct node_of_sealed (sent_in w)) where
  -- the machines of the script
  abbrev posts : List Post
  posts = roster_of script

  -- each of the entries was sent
  abbrev WereSent : List SealedEntry → Type 0
  WereSent es = (e : SealedEntry) → Contains es e → Contains (sent_in w) e

  -- the survivors of entries that were sent were sent
  survivors_sent : (es : List SealedEntry) → WereSent es → (graph : EntryGraph SealedEntry) →
      IsSealedGraph es (Ok graph) → WereSentIn w graph.survivors
  survivors_sent es sent graph graphed e inside =
      sent e (distinct_given node_of_sealed es e ((graphed.2.members e).0 inside).0)

  -- over survivors of entries that were sent no standard rule is too wide
  never_too_wide : (es : List SealedEntry) → WereSent es → (at : ℕ) → ¬ IsTooWideOver posts standard_rules es at
  never_too_wide es sent at (graph, graphed, first) =
      let narrow =
      scripts_are_never_too_wide script place.roster.steps w place.roster.lawful place.roster.comes apart graph.survivors
      (survivors_sent es sent graph graphed) graphed.2.kept.single first.rule
      (member_at standard_rules at first.rule first.stands) in
      let wide = first.too_wide in
      cc

  -- of survivors of entries that were sent no standard rule is broken
  unbroken : (es : List SealedEntry) → WereSent es → (s : Summary) → After posts standard_rules es s →
      count_by is_broken s.verdicts ≡ 0
  unbroken es sent s a =
      sym (length-filter is_broken s.verdicts) ∙ ap length (none_left is_broken s.verdicts
      (none_broken (map (row_of posts) a.graph.survivors) a.graph standard_rules s.verdicts a.judged free))
    where
      -- the machines keep the rules of their roles
      honest : IsHonest posts w
      honest = scripts_lead_to_honest_places script place.roster.steps w place.roster.lawful place.roster.comes

      -- no rule is known to be broken
      free : (rule : RuleTree) → Contains standard_rules rule →
          three_in (map (row_of posts) a.graph.survivors) (parents_of a.graph.links) (ragged_of a.graph.links) rule.body
          ≢ three.False
      free rule inside =
          honest_audits_never_say_broken posts w honest apart a.graph.survivors
          (survivors_sent es sent a.graph a.graphed) a.graphed.2.kept.single (parents_of a.graph.links)
          (ragged_of a.graph.links) a.graphed.2.kept.linked.arrows rule inside

  -- the first of entries that were sent were sent
  first_sent : (es : List SealedEntry) → WereSent es → (n : ℕ) → WereSent (take n es)
  first_sent es sent n e inside =
      sent e (subst (λ gs. Contains gs e) (take-append-drop n es)
      (Contains-append_left (take n es) (drop n es) e inside))

  -- none is broken in any of the summaries
  none_in : (es : List SealedEntry) → WereSent es → (ss : List Summary) → AreSummaries posts standard_rules es ss →
      All (λ (s : Summary). count_by is_broken s.verdicts ≡ 0) ss
  none_in es sent ss said k d within =
      unbroken (take (k + 1) es) (first_sent es sent (k + 1)) (get_or ss k d)
      (said.each k (get_or ss k d) (slice_get-get_or ss k d within))

  -- the summaries of entries that were sent are refused only where there are too many entries
  too_many : (es : List SealedEntry) → WereSent es → (refusal : Refusal) →
      GivesSummaries posts standard standard_rules es (Err refusal) →
      refusal ≡ refused (codes "entries") 0 (codes "TooMany")
  too_many es sent refusal (inl (many, e)) = e
  too_many es sent refusal (inr (few, (at, after, e))) =
      absurd (never_too_wide (take (after.before + 1) es) (first_sent es sent (after.before + 1)) at after.too_wide)

  -- ---- the files

  -- under the script's roster the world is of the script
  of : IsOfScript posts (election_of posts) w
  of = world_of_script script place.roster.lawful place.roster.steps w place.roster.comes

  -- the world is honest
  world : IsHonestWorld posts w
  world = scripts_are_honest script place.roster.lawful place.roster.steps w place.roster.comes

  -- what is read of the files: the script's roster, the standard rules and these logs
  abbrev evidence : List LogRead → Evidence
  evidence logs = record { machines = posts; rules = standard_rules; logs = logs }

  module _ (name : List ℕ) (names : List (List ℕ)) where
    -- what the files give
    abbrev Gives : Result Evidence Refusal → Type 0
    Gives = GivesEvidence name standard names (roster ∷ files)

    -- neither the roster nor a log is refused
    always_read : (refusal : Refusal) → ¬ Gives (Err refusal)
    always_read refusal (inl (read, given, inl (logs, gives, e))) = cc
    always_read refusal (inl (read, given, inr (other, gives, e))) =
        script_given posts (election_of posts) w of names files place.logs other
        (subst (λ (r : RosterRead). GivesLogs r.roster.machines r.election names files (Err other))
        (read_same script w roster place.roster name read given) gives)
    always_read refusal (inr (other, gives, e)) = roster_not_refused script w roster place.roster name other gives

    -- refused because of too many entries, or of no rule that it is broken
    abbrev IsSaid : Answer → Type 0
    IsSaid watched = (watched ≡ refused_answer (codes "entries") 0 (codes "TooMany")) ⊎ BreaksNoRule watched

    module _ (logs : List LogRead) (given : Gives (Ok (evidence logs)))
        (gives : GivesLogs posts (election_of posts) names files (Ok logs)) where
      -- the entries of the logs were sent
      sent : WereSent (entries_of logs)
      sent = (left_agrees posts w world apart logs
          (files_are_read posts w world names files place.logs logs gives)).were_sent

      -- `watch` is refused only where there are too many entries
      refused_so : (refusal : Refusal) → Watches standard names (evidence logs) (Err refusal) →
          refusal ≡ refused (codes "entries") 0 (codes "TooMany")
      refused_so refusal (inr (other, none, e)) =
          absurd (script_not_refused posts (election_of posts) w of apart names files place.logs logs gives other none)
      refused_so refusal (inl (graph, graphed, inr (other, none, e))) =
          let same : refusal ≡ other = cc in same ∙ too_many (entries_of logs) sent other none
      refused_so refusal (inl (graph, graphed, inl (summaries, said, inl (report, with, e)))) = cc
      refused_so refusal (inl (graph, graphed, inl (summaries, said, inr (other, none, e)))) =
          absurd (audits_are_refused_only_so script w roster files place apart name standard None names other
          (report_by names name standard (roster ∷ files) (evidence logs) (Err other) given (inl (graph, graphed, none))))

      -- and what is printed says of no rule that it is broken
      said_over : (watched : Answer) →
          OrRefused (Watches standard names (evidence logs)) (λ told other. other ≡ told) watched → IsSaid watched
      said_over watched (inl (refusal, watches, e)) = inl (e ∙ ap refusal_answer (refused_so refusal watches))
      said_over watched (inr (told, watches, e)) =
          let made = told_of standard names (evidence logs) told watches in
          let report = report_by names name standard (roster ∷ files) (evidence logs) (Ok (report_in made)) given
          (inl (made.graph, made.graphed, inl (made.verdicts, made.judged, refl))) in
          let is = e ∙ made.is in
          inr (record {
            summaries = made.summaries;
            lines = ap (λ (a : Answer). a.output) is;
            unbroken = none_in (entries_of logs) sent made.summaries made.said;
            status = λ broken.
                (reports_say_none_broken script w roster files place apart name names (report_in made) report).outcome
                (only_broken (outcome_of (report_in made)) (sym (status_is watched _ is) ∙ broken));
          })

    -- so it is over whatever was read: the script's roster, the standard rules and the logs
    said_of : (found : Evidence) → Gives (Ok found) → (watched : Answer) →
        OrRefused (Watches standard names found) (λ told other. other ≡ told) watched → IsSaid watched
    said_of found reads watched right =
        let (read, given, by_roster) = found_then reads in
        let (logs, gives, e) = found_then by_roster in
        let own = read_same script w roster place.roster name read given in
        let is : found ≡ evidence logs =
        same_found e
        ∙ ap (λ (r : RosterRead). record { machines = r.roster.machines; rules = standard_rules; logs = logs }) own in
        said_over logs (subst (λ (ev : Evidence). Gives (Ok ev)) is reads)
        (subst (λ (r : RosterRead). GivesLogs r.roster.machines r.election names files (Ok logs)) own gives) watched
        (subst (λ (ev : Evidence). OrRefused (Watches standard names ev) (λ told other. other ≡ told) watched) is right)

-- over what is left of an honest place `watch` says of no standard rule that it is broken
pub watches_break_none : HonestWatchesBreakNoRule
watches_break_none roster logs script w place apart name names watched (inl (refusal, inr (other, gives, same), e)) =
    absurd (always_read script w roster logs place apart name names other gives)
watches_break_none roster logs script w place apart name names watched (inl (refusal, inl (found, given, watches), e)) =
    said_of script w roster logs place apart name names found given watched (inl (refusal, watches, e))
watches_break_none roster logs script w place apart name names watched (inr (told, gives, e)) =
    let (found, given, watches) = found_then gives in
    said_of script w roster logs place apart name names found given watched (inr (told, watches, e))
