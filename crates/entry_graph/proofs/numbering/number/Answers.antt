use Rattle.entry_graph.proofs.Imports.{rules, ◌≡◌, always_returns_same}
use Rattle.entry_graph.proofs.NumberFacts.{key_of, rises_from_sorted, single_moved}
use Rattle.entry_graph.proofs.numbering.number.Goals as goal

-- the closure computes the key
pub returns-clause-rises : goal.returns-clause-rises
returns-clause-rises g c =
    rises_from_sorted g.T.Knot.node c.sort_unstable_by_key.new.self.items
    (single_moved g.T.Knot.node c.args.entries.now.items c.sort_unstable_by_key.new.self.items
    c.sort_unstable_by_key.ensures.permutation c.requires)
    (c.sort_unstable_by_key.ensures.sorted (key_of g.T.Knot.node)
    (always_returns_same _ (λ a r. r ≡ key_of g.T.Knot.node a.0.now) _ (λ a r q k. search rules)))
