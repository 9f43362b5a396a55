use Rattle.std.proofs.Common.{length, ◌-◌, ◌≡◌, ℕ, slice_index, bit_or, ◌<◌, ◌≤◌}
use Rattle.precedence.proofs.lanes.unite.Given as goal

-- the words so far are united, and the others as they were
abbrev pub invariant-loop-at : goal.invariant-loop-at
invariant-loop-at l = record {
  within : l.at ≤ length l.into;
  done : (k : ℕ) → k < l.at →
      slice_index l.into k ≡ bit_or (slice_index l.fn.into k) (slice_index l.from k);
  left : (k : ℕ) → l.at ≤ k → slice_index l.into k ≡ slice_index l.fn.into k;
}

-- words that are left
abbrev pub decreases-loop-at : goal.decreases-loop-at
decreases-loop-at l = length l.into - l.at

-- the words so far are united, one word at a time
abbrev pub invariant-loop-rest : goal.invariant-loop-rest
invariant-loop-rest l = record {
  done : (k : ℕ) → k < l.rest →
      slice_index l.into k ≡ bit_or (slice_index l.fn.into k) (slice_index l.from k);
  left : (k : ℕ) → l.rest ≤ k → slice_index l.into k ≡ slice_index l.fn.into k;
}
