-- Rows of bits.
use Rattle.std.specs.Prelude.{ℕ, ◌/◌, ◌%◌, Bool, ◌==◌, List, [], slice_index, slice_index_or}
use Rattle.std.specs.Int.{bit_at}

-- bit y of a row of 64-bit words
abbrev pub has_bit : List ℕ → ℕ → Bool
has_bit words y = bit_at (slice_index words (y / 64)) (y % 64) == 1

-- bit y of the row at place x
abbrev pub row_has : List (List ℕ) → ℕ → ℕ → Bool
row_has rows x y = has_bit (slice_index_or rows x []) y
