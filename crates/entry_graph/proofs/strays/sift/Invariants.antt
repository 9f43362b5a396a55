use Rattle.entry_graph.proofs.Imports.{◌≡◌, ℕ, List, not, ◌&&◌, is_at, contains, filter, list_any, slice_cmp, nat_cmp}
use Rattle.entry_graph.proofs.Imports.{is_stray}
use Rattle.entry_graph.proofs.strays.sift.Given as goal

-- the survivors so far, and the digests of the strays so far
abbrev pub invariant-loop-entry : goal.invariant-loop-entry
invariant-loop-entry g l = record {
  survivors : l.survivors.items ≡ filter (λ e. not (is_stray g.T.Knot.node l.fn.given.items e)) l.yielded;
  strays : (d : List ℕ) → contains (slice_cmp nat_cmp) l.strays d
      ≡ list_any (λ e. is_stray g.T.Knot.node l.fn.given.items e
      && is_at (slice_cmp nat_cmp (g.T.Knot.node e).digest) d) l.yielded;
}
