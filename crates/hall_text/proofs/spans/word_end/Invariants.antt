use Rattle.hall_text.proofs.spans.word_end.Given as goal
use Rattle.hall_text.specs.{Spans.IsWordByte, Tokens.word_end}
use Rattle.std.proofs.Common.{drop, length, slice_index, ℕ, ◌-◌, ◌<◌, ◌≡◌, ◌≤◌}

-- the word ends where its bytes that are left end, and all bytes so far belong to it
abbrev pub invariant-loop-end : goal.invariant-loop-end
invariant-loop-end l = record {
  value : word_end l.fn.at (drop l.fn.at l.text) ≡ word_end l.end (drop l.end l.text);
  within : l.fn.at ≤ l.end;
  inside : l.end ≤ length l.text;
  bytes : (i : ℕ) → l.fn.at ≤ i → i < l.end → IsWordByte (slice_index l.text i);
}

abbrev pub decreases-loop-end : goal.decreases-loop-end
decreases-loop-end l = length l.text - l.end
