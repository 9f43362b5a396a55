-- How long the row of each node is.
use Rattle.std.specs.Prelude.{◌≡◌, ℕ, ◌/◌, ◌+◌, ◌<◌, List, [], length, slice_index_or}

-- how many words have a bit for each node below x
abbrev pub words_below : ℕ → ℕ
words_below x = (x + 63) / 64

-- each row has the words for the nodes below its own, and no more
abbrev pub HasItsWords : List (List ℕ) → Type 0
HasItsWords rows = (x : ℕ) → x < length rows → length (slice_index_or rows x []) ≡ words_below x
