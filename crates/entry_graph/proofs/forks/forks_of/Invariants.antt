use Rattle.entry_graph.proofs.Imports.{◌≡◌, ℕ, true, take, ◌↔◌, contains, pair_cmp, IsFork}
use Rattle.entry_graph.proofs.ForkFacts.{has_pair}
use Rattle.entry_graph.proofs.forks.forks_of.Given as goal

-- the pairs so far, and those that are forked
abbrev pub invariant-loop-entry : goal.invariant-loop-entry
invariant-loop-entry g l = record {
  seen : (q : ℕ × ℕ) → contains pair_cmp l.seen q ≡ has_pair g.T.Knot.node (take l.entry-index l.entries) q;
  forked : (m n : ℕ) → (contains pair_cmp l.forked (m, n) ≡ true)
      ↔ IsFork g.T.Knot.node (take l.entry-index l.entries) m n;
}
