use Rattle.log_frontier.proofs.Imports.{Contains-none, Contains-permutation, IsPermutation-sym, ◌∙◌}
use Rattle.log_frontier.proofs.gaps_of_entries.ascending.Goals as goal

-- what is taken once from the sorted digests rises and has their members
pub returns : goal.returns
returns c =
    let digests = c.args.digests.items in
    let sorted = c.sort_unstable.new.self.items in
    let moved = c.sort_unstable.ensures.permutation in
    let w = rw c.as_slice.ensures.value at c.in_ok-found.ensures in
    c.from_vec.ensures ∙ (c.ascending_is_unique.ensures digests c.in_ok-found.found.items).1 (record {
      rises = w.rises;
      members = λ d. (
        (λ h. Contains-permutation sorted digests d (IsPermutation-sym digests sorted moved) ((w.members d).0 h).0),
        (λ h. (w.members d).1 (Contains-permutation digests sorted d moved h, Contains-none d)),
      );
    })
