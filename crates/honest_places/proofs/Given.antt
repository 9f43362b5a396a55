-- What is given by what is left of an honest world's logs.
use Rattle.honest_places.proofs.Imports
use Imports.{[], AgreesWith, All-contains, ap, AreReadIn, arith, Bool, bytes_eq, bytes_eq-Decides, Collision, cond}
use Imports.{Contains, Contains-append_left, Contains-filter_cases, Contains-flat_map, Contains-flat_map_cases}
use Imports.{Contains-map, Contains-map_cases, Contains-middle, DigestsDiffer, Distinct, distinct, election_of}
use Imports.{element_at, entries_of, entries_of_records, entry_of, EntryGraph, Err, Event, false, few_among, filter}
use Imports.{Got, GraphFault, HasNoCollision, HaveAll, held_kept, history, honest_entries_agree_in_orderly_worlds}
use Imports.{in_world, IsAllGiven, IsAllTold, IsGraphAnswer, IsGraphOfGiven, IsHonestGraph, IsHonestlyGiven}
use Imports.{IsHonestWorld, IsOrderly, IsReadIn, IsStray, length, List, LogRead, max_actions, member_split, Memory}
use Imports.{Node, node_of_sealed, none_inside, not, not_from_true, Ok, one_unsealing, parents_of, Post, ragged_of}
use Imports.{refl, SealedEntry, Sent, sent_in, sent_in_cases, sent_in_from, subst, survivors_are_no_strays, sym, take}
use Imports.{TooMany, true, true≢false, Unseals, World, ℕ, ◌++◌, ◌↔◌, ◌∙◌, ◌∷◌, ◌≡◌, ◌≤◌}
use Rattle.entry_graph.proofs.DistinctFacts.{distinct_bears, distinct_given}
use Rattle.honest_places.proofs.Lists.{Contains-take}

-- ---- distinct entries

module _ {T : Type 0} (node : T → Node) where
  -- where digests differ, so do those of the entries that pass a test
  pub apart_filter : (p : T → Bool) (xs : List T) → DigestsDiffer node xs → DigestsDiffer node (filter p xs)
  apart_filter p [] apart = tt
  apart_filter p (x ∷ xs) apart = by (p x) (apart_filter p xs apart.1)
    where
      -- the same by whether the first member passes
      by : (b : Bool) → DigestsDiffer node (filter p xs) → DigestsDiffer node (cond b (x ∷ filter p xs) (filter p xs))
      by true rest = (λ y c. apart.0 y (Contains-filter_cases p xs y c).0, rest)
      by false rest = rest

  -- those of distinct entries differ
  distinct_apart : (es : List T) → DigestsDiffer node (distinct node es)
  distinct_apart [] = tt
  distinct_apart (x ∷ es) =
      let p = λ (y : T). not (bytes_eq (node y).digest (node x).digest) in (
        λ y c same.
            let equal = (bytes_eq-Decides (node y).digest (node x).digest).1 same in
            true≢false (sym (Contains-filter_cases p (distinct node es) y c).1
            ∙ not_from_true (bytes_eq (node y).digest (node x).digest) equal),
        apart_filter p (distinct node es) (distinct_apart es),
      )

-- ---- the entries of an honest world

-- what a machine sent or got was sent
pub event_was_sent : {T : Type 0} {node : T → Node} (w : World T) → IsOrderly node w → (m : ℕ) (x : Event T) →
    Contains (history w m) x → Contains (sent_in w) (entry_of x)
event_was_sent w orderly m (Sent e) c = sent_in_from w m e c
event_was_sent w orderly m (Got e) c = orderly.heard m e c

-- each entry that is read of the logs was sent
were_sent : (w : World SealedEntry) → IsOrderly node_of_sealed w → (logs : List LogRead) → AreReadIn w logs →
    (e : SealedEntry) → Contains (entries_of logs) e → Contains (sent_in w) e
were_sent w orderly logs all e c =
    let (log, there, inside) =
    Contains-flat_map_cases (λ (log : LogRead). entries_of_records log.kept) logs e c in
    let is = All-contains (IsReadIn w) logs log all there in
    let (x, among, of) = Contains-map_cases entry_of (take is.read.count (history w is.machine)) e
    (rw (← held_kept log.kept, is.read.kept) at inside) in
    subst (Contains (sent_in w)) {x = entry_of x} of
    (event_was_sent w orderly is.machine x (Contains-take (history w is.machine) is.read.count x among))

module _ (w : World SealedEntry) (orderly : IsOrderly node_of_sealed w) (apart : Distinct node_of_sealed (sent_in w))
    (given : List SealedEntry) (sent : (e : SealedEntry) → Contains given e → Contains (sent_in w) e) where
  -- the given entries without repetitions
  abbrev once : List SealedEntry
  once = distinct node_of_sealed given

  -- no two of the given entries have one digest and different texts
  no_collision : HasNoCollision node_of_sealed (λ e. e.text) given
  no_collision e f ce cf same = ap (λ (g : SealedEntry). g.text) (apart e f (sent e ce) (sent f cf) same)

  -- each of the distinct entries was sent
  distinct_sent : (e : SealedEntry) → Contains once e → Contains (sent_in w) e
  distinct_sent e c = sent e (distinct_given node_of_sealed given e c)

  -- each given entry is one of the distinct ones
  is_distinct : (e : SealedEntry) → Contains given e → Contains once e
  is_distinct e c =
      let (g, there, same) = distinct_bears node_of_sealed given e c in
      subst (Contains once) (apart g e (distinct_sent g there) (sent e c) same) there

  -- none of them is a stray: their makers held what they name, so all survive
  no_stray : (e : SealedEntry) → Contains once e → IsStray node_of_sealed once e → ⊥
  no_stray e c =
      let all = (honest_entries_agree_in_orderly_worlds node_of_sealed w orderly apart once distinct_sent).survive in
      ((survivors_are_no_strays node_of_sealed once e).0 (rw all c)).1

  module _ (graph : EntryGraph SealedEntry) (is : IsGraphOfGiven node_of_sealed once graph) where
    -- the graph's survivors are the given entries
    members : (e : SealedEntry) → Contains graph.survivors e ↔ Contains given e
    members e = (
      λ c. distinct_given node_of_sealed given e ((is.members e).0 c).0,
      λ c. (is.members e).1 (is_distinct e c, no_stray e (is_distinct e c)),
    )

    -- the survivors agree with the world on who held what before
    agrees : AgreesWith node_of_sealed (length w) w graph.survivors
    agrees =
        honest_entries_agree_in_orderly_worlds node_of_sealed w orderly apart graph.survivors
        (λ e c. sent e ((members e).0 c))

    -- where all that was sent is given, all is reported
    all_told : IsAllGiven w given → IsAllTold graph
    all_told all =
        let told = agrees.all_known (λ e c. (members e).1 (all e c)) in
        record {
          no_gap = is.kept.gaps ∙ told.no_gaps;
          known = λ y x at there.
              let (f, is_f) = element_at graph.survivors y at in
              let (e, is_e) = element_at graph.survivors x there in
              told.no_unknown (parents_of graph.links) (ragged_of graph.links) is.kept.linked.arrows y x f e is_f is_e;
        }

    -- so the graph is an honest one
    honest_graph : IsHonestGraph w given graph
    honest_graph = record {
      no_stray = none_inside graph.strays (λ d c.
          let (e, there, stray, same) = (is.strays.members d).0 c in no_stray e there stray);
      no_fork = none_inside graph.forks (λ p c.
          let (e, f, ce, cf, differ, me, ne, mf, nf) = (is.kept.forks.members p.0 p.1).0 c in
          differ (agrees.no_fork e f ce cf (me ∙ sym mf) (ne ∙ sym nf)));
      members = members;
      completed = agrees.completed;
      order = agrees.order (parents_of graph.links) (ragged_of graph.links) is.kept.linked.arrows;
      all_told = all_told;
    }

  -- a graph of few entries without a collision fails only when out of memory
  not_refused : length (sent_in w) ≤ max_actions → (fault : GraphFault SealedEntry) →
      IsGraphAnswer node_of_sealed (λ e. e.text) given (Err fault) → fault ≡ Memory
  not_refused few (Collision e f) (earlier, later, is, before, there, same, differ) =
      let both = λ (x : SealedEntry) (c : Contains (earlier ++ f ∷ later) x). rw (← is) at c in
      absurd (differ (no_collision e f (both e (Contains-append_left earlier (f ∷ later) e there))
      (both f (Contains-middle earlier f later)) same))
  not_refused few TooMany (none, many) =
      let among = few_among node_of_sealed once (sent_in w) (distinct_apart node_of_sealed given) distinct_sent in
      absurd (omega (arith, many, few, among))
  not_refused few Memory is = refl

-- what is read of the logs of an honest world, or of what is left of them, is honestly given
pub left_agrees : (posts : List Post) (w : World SealedEntry) → IsHonestWorld posts w →
    Distinct node_of_sealed (sent_in w) → (logs : List LogRead) → AreReadIn w logs →
    IsHonestlyGiven w (entries_of logs)
left_agrees posts w honest apart logs read =
    let sent = were_sent w honest.orderly logs read in
    record {
      were_sent = sent;
      no_collision = no_collision w honest.orderly apart (entries_of logs) sent;
      not_refused = not_refused w honest.orderly apart (entries_of logs) sent honest.few_sent;
      graph = honest_graph w honest.orderly apart (entries_of logs) sent;
    }

-- where all logs are there, whole, all entries are given
pub all_given : (w : World SealedEntry) (logs : List LogRead) → HaveAll w logs → IsAllGiven w (entries_of logs)
all_given w logs all e c =
    let (m, there) = sent_in_cases w e c in
    let (before, later, is) = member_split (history w m) (Sent e) there in
    let (log, member, read) = all m (in_world w m before (Sent e) later is) in
    Contains-flat_map (λ (l : LogRead). entries_of_records l.kept) logs log e member
    (rw (← held_kept log.kept, read.kept) (Contains-map entry_of (history w m) (Sent e) there))

-- entries of one text are one, so where nothing that was sent collides, different entries have
-- different digests
pub shows_distinct : (posts : List Post) (w : World SealedEntry) → IsHonestWorld posts w → (given : List SealedEntry) →
    IsAllGiven w given → HasNoCollision node_of_sealed (λ e. e.text) given → Distinct node_of_sealed (sent_in w)
shows_distinct posts w honest given all none e f ce cf same =
    let text : f.text ≡ e.text = sym (none e f (all e ce) (all f cf) same) in
    let one : Ok e ≡ Ok f =
    one_unsealing posts (election_of posts) e.text (Ok e) (Ok f) (honest.valid e ce)
    (subst (λ (t : List ℕ). Unseals posts (election_of posts) t (Ok f)) text (honest.valid f cf)) in
    cc
