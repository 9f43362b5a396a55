use Rattle.log_frontier.proofs.gaps_of_entries.gaps.Goals as goal
use Rattle.log_frontier.proofs.{GapMembers.gaps_from, Imports.◌∙◌}

pub returns : goal.returns
returns g c =
    c.from_vec.ensures
    ∙ gaps_from g.T.Knot.node c.args.entries.now c.sort_unstable-2.new.self.items c.sort_unstable.new.self.items
    c.in_ok-digests.digests.items c.gaps_are_unique.ensures
    (rw c.in_ok-named.ensures at c.sort_unstable-2.ensures.permutation)
    (rw c.in_ok-borne.ensures at c.sort_unstable.ensures.permutation)
    (rw (c.as_slice.ensures.value, c.as_slice-2.ensures.value) at c.in_ok-digests.ensures)
