use Rattle.entry_graph.proofs.graph.Graph.make.Goals as goal
use Rattle.entry_graph.proofs.GraphFacts.{graph_is_right, parts_are_right, survivors_few, survivors_single}
use Rattle.entry_graph.proofs.Imports.{ap, AreForks, AreLinks, EntryGraph, gaps, HasNoDigestTwice, IsEntryGraph}
use Rattle.entry_graph.proofs.Imports.{IsGraphOfGiven, IsPermutation, length, NamesLower, rules, subst, sym, ◌∙◌, ◌≤◌}
use Rattle.entry_graph.proofs.{NumberFacts.single_moved, StrayFacts.survivors_name_lower}

-- the survivors have no digest twice
pub number-requires : goal.number-requires
number-requires g c =
    survivors_single g.T.Knot.node c.in_ok-distinct.distinct.items c.in_ok-sifted.sifted.survivors.items
    c.in_ok-distinct.ensures.single (sym c.in_ok-sifted.ensures.survivors)

-- the numbered survivors have no digest twice
pub links_of-requires-clause-distinct : goal.links_of-requires-clause-distinct
links_of-requires-clause-distinct g c =
    let node = g.T.Knot.node in
    let found = c.in_ok-sifted.sifted.survivors.items in
    subst (λ es. HasNoDigestTwice node es) (sym c.deref-2.ensures.value)
    (single_moved node found c.number.new.entries.items c.number.ensures.same
    (survivors_single node c.in_ok-distinct.distinct.items found c.in_ok-distinct.ensures.single
    (sym c.in_ok-sifted.ensures.survivors)))

pub links_of-requires-clause-few : goal.links_of-requires-clause-few
links_of-requires-clause-few g c =
    let given = c.in_ok-distinct.distinct.items in
    let few : length given ≤ 16384 = search rules in
    subst (λ es. length es ≤ 16384) (sym c.deref-2.ensures.value)
    (survivors_few g.T.Knot.node given c.in_ok-sifted.sifted.survivors.items c.number.new.entries.items
    c.in_ok-sifted.ensures.survivors c.number.ensures.same few)

pub links_of-requires-clause-falling : goal.links_of-requires-clause-falling
links_of-requires-clause-falling g c =
    let node = g.T.Knot.node in
    let S = c.number.new.entries.items in
    subst (λ es. NamesLower node es) (sym c.deref-2.ensures.value)
    (survivors_name_lower node c.in_ok-distinct.distinct.items S
    (subst (λ es. IsPermutation es S) c.in_ok-sifted.ensures.survivors c.number.ensures.same))

pub forks_of-requires : goal.forks_of-requires
forks_of-requires g c =
    let node = g.T.Knot.node in
    let found = c.in_ok-sifted.sifted.survivors.items in
    subst (λ es. HasNoDigestTwice node es) (sym c.deref-4.ensures.value)
    (single_moved node found c.number.new.entries.items c.number.ensures.same
    (survivors_single node c.in_ok-distinct.distinct.items found c.in_ok-distinct.ensures.single
    (sym c.in_ok-sifted.ensures.survivors)))

-- what holds of each graph
pub invariant_of-result : goal.invariant_of-result
invariant_of-result g c =
    let node = g.T.Knot.node in
    let given = c.in_ok-distinct.distinct.items in
    let few : length given ≤ 16384 = search rules in
    parts_are_right node given c.in_ok-sifted.sifted.survivors.items
    (record {
      survivors = c.number.new.entries.items;
      links = c.in_ok-links.links.items;
      gaps = c.in_ok-gaps.gaps;
      strays = c.in_ok-sifted.sifted.strays.items;
      forks = c.in_ok-forks.forks.items;
    })
    c.in_ok-distinct.ensures.single few c.in_ok-sifted.ensures.survivors c.number.ensures.same
    c.number.ensures.rises
    (subst (λ es. AreLinks node es c.in_ok-links.links.items) c.deref-2.ensures.value c.in_ok-links.ensures)
    (c.in_ok-gaps.ensures ∙ ap (gaps node) c.deref-3.ensures.value)
    (subst (λ es. AreForks node es c.in_ok-forks.forks.items) c.deref-4.ensures.value c.in_ok-forks.ensures)

pub returns : goal.returns
returns g c =
    let node = g.T.Knot.node in
    let given = c.in_ok-distinct.distinct.items in
    let found = c.in_ok-sifted.sifted.survivors.items in
    let few : length given ≤ 16384 = search rules in
    let graph : EntryGraph g.row.T.Denot = record {
      survivors = c.number.new.entries.items;
      links = c.in_ok-links.links.items;
      gaps = c.in_ok-gaps.gaps;
      strays = c.in_ok-sifted.sifted.strays.items;
      forks = c.in_ok-forks.forks.items;
    } in
    let kept : IsEntryGraph node graph =
    parts_are_right node given found graph c.in_ok-distinct.ensures.single few c.in_ok-sifted.ensures.survivors
    c.number.ensures.same c.number.ensures.rises
    (subst (λ es. AreLinks node es c.in_ok-links.links.items) c.deref-2.ensures.value c.in_ok-links.ensures)
    (c.in_ok-gaps.ensures ∙ ap (gaps node) c.deref-3.ensures.value)
    (subst (λ es. AreForks node es c.in_ok-forks.forks.items) c.deref-4.ensures.value c.in_ok-forks.ensures) in (
      c.in_ok-distinct.ensures.no_collision,
      subst (λ es. length es ≤ 16384) c.in_ok-distinct.ensures.found few,
      subst (λ es. IsGraphOfGiven node es graph) c.in_ok-distinct.ensures.found
          (graph_is_right node given found graph c.in_ok-sifted.ensures.survivors c.number.ensures.same
          c.in_ok-sifted.ensures.strays kept),
    )
