-- Entries have one summary, in whatever order they came.
use Rattle.live_auditor.proofs.Imports.{ap, AreGiven, arith, Contains, Distinct, distinct, distinct_bears}
use Rattle.live_auditor.proofs.Imports.{distinct_given, EntriesGiveOneGraph, EntryGraph, IsGraphOfGiven, IsSealedGraph}
use Rattle.live_auditor.proofs.Imports.{IsStray, List, map, node_of_sealed, nodes_of, Ok, OrdersGiveOneSummary, Post}
use Rattle.live_auditor.proofs.Imports.{row_of, rule_tree, SealedEntry, standard, verdicts_agree, ◌↔◌, ◌≡◌}
use Rattle.live_auditor.proofs.Additions.{distinct_shorter, given_live}

-- lists with the same entries
abbrev pub AreSame : List SealedEntry → List SealedEntry → Type 0
AreSame given other = (e : SealedEntry) → Contains given e ↔ Contains other e

-- what is a stray among entries is one among these and more
stray_moved : (given other : List SealedEntry) → ((e : SealedEntry) → Contains given e → Contains other e) →
    (e : SealedEntry) → IsStray node_of_sealed given e → IsStray node_of_sealed other e
stray_moved given other under e (g, has, names, late) = (g, under g has, names, late)

-- so the graph of entries is one of the same
pub graph_moved : (given other : List SealedEntry) → AreSame given other →
    (graph : EntryGraph SealedEntry) → IsGraphOfGiven node_of_sealed given graph →
    IsGraphOfGiven node_of_sealed other graph
graph_moved given other same graph is =
    let on = stray_moved given other (λ e. (same e).0) in
    let back = stray_moved other given (λ e. (same e).1) in
    record {
      kept = is.kept;
      members = λ e. (
        λ has. let (inside, sound) = (is.members e).0 has in ((same e).0 inside, λ stray. sound (back e stray)),
        λ (inside, sound). (is.members e).1 ((same e).1 inside, λ stray. sound (on e stray)),
      );
      strays = record {
        rises = is.strays.rises;
        members = λ d. (
          λ has.
              let (e, inside, stray, is_d) = (is.strays.members d).0 has in
              (e, (same e).0 inside, on e stray, is_d),
          λ (e, inside, stray, is_d). (is.strays.members d).1 (e, (same e).1 inside, back e stray, is_d),
        );
      };
    }

-- those that are distinct among entries of which no two have one digest are all
pub same_distinct : (given : List SealedEntry) → Distinct node_of_sealed given →
    AreSame (distinct node_of_sealed given) given
same_distinct given apart f = (
  distinct_given node_of_sealed given f,
  λ has.
      let (g, there, same) = distinct_bears node_of_sealed given f has in
      rw (apart g f (distinct_given node_of_sealed given g there) has same) at there,
)

-- so their graph is what is answered of them
pub sealed_apart : {machines : List Post} {given : List SealedEntry} {graph : EntryGraph SealedEntry} →
    AreGiven machines given → IsGraphOfGiven node_of_sealed given graph → IsSealedGraph given (Ok graph)
sealed_apart {machines} {given} {graph} are is = (
  λ e f has also same. ap (λ (s : SealedEntry). s.text) (are.apart e f has also same),
  omega (arith, distinct_shorter given, are.few),
  graph_moved given (distinct node_of_sealed given)
      (λ e. ((same_distinct given are.apart e).1, (same_distinct given are.apart e).0)) graph is,
)

-- audits by the same rules of the same entries say the same
pub one_summary : EntriesGiveOneGraph → OrdersGiveOneSummary
one_summary graphs live other a b machines rules entries =
    let moved = graph_moved other.added live.added (λ e. ((entries e).1, (entries e).0)) b.after.graph
    (rw b.once at b.after.graphed.2) in
    let found : Ok a.after.graph ≡ Ok b.after.graph =
    graphs live.added (Ok a.after.graph) (Ok b.after.graph) a.after.graphed (sealed_apart (given_live live a) moved) in
    let same : a.after.graph ≡ b.after.graph = cc in
    record {
      survivors = rw (a.after.survivors, same, b.after.survivors);
      gaps = rw (a.after.gaps, same, b.after.gaps);
      strays = rw (a.after.strays, same, b.after.strays);
      forks = rw (a.after.forks, same, b.after.forks);
      verdicts = verdicts_agree (map (row_of live.machines) a.after.graph.survivors) (nodes_of a.after.graph) standard
          (map rule_tree live.rules) (Ok live.summary.verdicts) (Ok other.summary.verdicts) a.after.judged
          (rw (same, machines, rules) b.after.judged);
    }
