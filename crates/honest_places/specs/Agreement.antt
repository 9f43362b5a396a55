-- What an auditor learns from what is left of an honest place.
use Rattle.std.specs.Prelude.{◌≡◌, ◌≢◌, ◌↔◌, ℕ, ◌<◌, List, [], length, slice_get, Some, Err}
use Rattle.std.specs.List.{Contains}
use Rattle.entry_format.specs.Nodes.{node_of_sealed}
use Rattle.entry_format.specs.SealedEntry.{SealedEntry}
use Rattle.entry_order.specs.declared.three.Three.TheVariants.{False, Unknown, True}
use Rattle.entry_order.specs.Ancestors.{before}
use Rattle.entry_order.specs.HeldBefore.{HeldBefore}
use Rattle.entry_order.specs.Completion.{Completion}
use Rattle.entry_order.specs.World.{World, history, sent_in}
use Rattle.entry_graph.specs.declared.fault.GraphFault.{GraphFault}
use Rattle.entry_graph.specs.declared.fault.GraphFault.TheVariants.{Memory}
use Rattle.entry_graph.specs.Answers.{IsGraphAnswer}
use Rattle.entry_graph.specs.EntryGraph.{EntryGraph, IsGraphOfGiven, parents_of, ragged_of}
use Rattle.entry_graph.specs.Given.{distinct, HasNoCollision}
use Rattle.log_files.specs.Logs.{LogRead}
use Rattle.honest_places.specs.WhatIsLeft.{IsWholeRead}

-- each log of w is among them, whole
abbrev pub HaveAll : World SealedEntry → List LogRead → Type 0
HaveAll w logs =
    (m : ℕ) → m < length w → (log : LogRead) × Contains logs log × IsWholeRead m (history w m) log

-- every entry that was sent in w is given
abbrev pub IsAllGiven : World SealedEntry → List SealedEntry → Type 0
IsAllGiven w given = (e : SealedEntry) → Contains (sent_in w) e → Contains given e

-- what the graph says of the order of two survivors is what the machines of w held
abbrev pub GraphOrderIsHeld : World SealedEntry → EntryGraph SealedEntry → Type 0
GraphOrderIsHeld w graph =
    (y x : ℕ) (f e : SealedEntry) → slice_get graph.survivors y ≡ Some f → slice_get graph.survivors x ≡ Some e →
    (before (parents_of graph.links) (ragged_of graph.links) y x ≡ True → HeldBefore w f e)
    × (before (parents_of graph.links) (ragged_of graph.links) y x ≡ False → ¬ (HeldBefore w f e))

-- nothing is unknown in the graph: it has no gap, and the order of any two survivors is said
pub record IsAllTold (graph : EntryGraph SealedEntry) : Type 0 where
  pub no_gap : graph.gaps ≡ []
  pub known : (y x : ℕ) → y < length graph.survivors → x < length graph.survivors →
      before (parents_of graph.links) (ragged_of graph.links) y x ≢ Unknown

-- The graph of what is given accuses nobody: it has no stray and no fork, its survivors are the
-- entries given, what w sent completes them, and what it says of their order is what the machines
-- held. Where all that was sent is given, nothing is unknown (Auditorium, EVT 2007).
pub record IsHonestGraph (w : World SealedEntry) (given : List SealedEntry) (graph : EntryGraph SealedEntry)
    : Type 0 where
  pub no_stray : graph.strays ≡ []
  pub no_fork : graph.forks ≡ []
  pub members : (e : SealedEntry) → Contains graph.survivors e ↔ Contains given e
  pub completed : Completion node_of_sealed (length w) graph.survivors (sent_in w)
  pub order : GraphOrderIsHeld w graph
  pub all_told : IsAllGiven w given → IsAllTold graph

-- each of the entries given was sent in w, no two of them collide, and their graph is an honest
-- one, which isn't refused unless memory runs out (Auditorium, EVT 2007)
pub record IsHonestlyGiven (w : World SealedEntry) (given : List SealedEntry) : Type 0 where
  pub were_sent : (e : SealedEntry) → Contains given e → Contains (sent_in w) e
  pub no_collision : HasNoCollision node_of_sealed (λ e. e.text) given
  pub not_refused : (fault : GraphFault SealedEntry) →
      IsGraphAnswer node_of_sealed (λ e. e.text) given (Err fault) → fault ≡ Memory
  pub graph : (graph : EntryGraph SealedEntry) →
      IsGraphOfGiven node_of_sealed (distinct node_of_sealed given) graph → IsHonestGraph w given graph
